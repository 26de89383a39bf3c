-- Whatever a node sends in one step fits a link of which nothing waits for its acknowledgement.
use Rattle.std.proofs.Common.{◌≡◌, ℕ, ◌+◌, ◌-◌, ◌^◌, ◌<◌, ◌≤◌, Bool, true, false, not, ◌&&◌, List, [], ◌∷◌, length, map, slice_get, refl, sym, ap, subst, ◌∙◌, arith, Option, None, Some}
use Rattle.std.specs.Prelude.{nat_eq, nat_lt}
use Rattle.std.specs.List.{filter_map, cons_option}
use Rattle.std.proofs.lemmas.Bool.Decides.{nat_tests}
use Rattle.std.proofs.lemmas.List.{length-map}
use Rattle.std.proofs.lemmas.List.Sums.{length-filter, count_by-le-length}
use Rattle.network.specs.Connection.{Connection}
use Rattle.network.specs.Network.{Network}
use Rattle.signal.specs.declared.signal.Signal.{Signal}
use Rattle.link.specs.Image.{Image, last_number, room_left}
use Rattle.plan.specs.declared.draft.Draft.{Draft}
use Rattle.plan.specs.declared.draft.ConnectionDraft.{ConnectionDraft}
use Rattle.plan.specs.declared.input.Input.{Input}
use Rattle.plan.specs.Federation.{connections_of, connection_of}
use Rattle.plan.specs.Legal.{IsLegal}
use Rattle.reactor_program.specs.Behaviour.{Behaviour}
use Rattle.plan_network.specs.Network.{network_of}
use Rattle.protocol.specs.declared.post.Post.{Post}
use Rattle.protocol.specs.Outcome.{Outcome, Refused, Nothing, Done, IfDone}
use Rattle.protocol.specs.Federate.{Federate, Stepped, federate_accepts, federate_announces, federate_advances}
use Rattle.protocol.specs.Coordinator.{Coordinated, coordinator_accepts}
use Rattle.protocol.specs.FederateRecord.{FederateRecord}
use Rattle.protocol.specs.FederateRecords.{federate_record_at}
use Rattle.protocol.specs.Grant.{Rule}
use Rattle.protocol.specs.Machine.{sent_to}
use Rattle.node.specs.Mail.{count_for, lacks, lacks_at, peer_lacks, lacks_room}
use Rattle.node.specs.Core.{Made}
use Rattle.node.proofs.Ends.{room_for_all}
use Rattle.node_cores.specs.FederateCore as of_federate
use Rattle.node_cores.specs.FederateCore.{FederateNode, to_coordinator}
use Rattle.node_cores.specs.CoordinatorCore as of_coordinator
use Rattle.node_cores.specs.CoordinatorCore.{CoordinatorNode}
use Rattle.world_stations.specs.declared.limits.TheConstants.{LINK_ROOM}
use Rattle.world_stations.proofs.Moves.{done_of, rule_of, coordinator_makes, coordinator_accepts_listed}
use Rattle.world_progress.specs.Fuel.{outgoing_count}
use Rattle.world_progress.proofs.Sent.{accept_sends, announce_sends, advance_sends}
use Rattle.world_progress.proofs.CoordinatorMoves.{coordinator_sends}

not_below : (a b : ℕ) → b ≤ a → nat_lt a b ≡ false
not_below a b h = grind (arith, nat_tests)

second_false : (a b : Bool) → b ≡ false → (a && b) ≡ false
second_false true b e = e
second_false false b e = refl

-- an end that keeps nothing
pub fits : (e : Image) (count : ℕ) → length e.kept ≡ 0 → e.room ≡ 4096 → last_number e < 2 ^ 63 → count ≤ 1025 → lacks e count ≡ false
fits e count none room few most =
    let enough : count ≤ room_left e = omega arith in
    second_false (not e.closed) (nat_lt (room_left e) count) (not_below (room_left e) count enough)

same_test : (a b : ℕ) → nat_eq a b ≡ nat_eq b a
same_test a b = grind (arith, nat_tests)

-- posts for a peer are the signals sent to it
count_is : (p : ℕ) (posts : List Post) → count_for p posts ≡ length (sent_to p posts)
count_is p [] = refl
count_is p (post ∷ rest) =
    let same = same_test post.peer p in
    let more = count_is p rest in
    grind (arith, same, more)

-- no more of them than posts
count_at_most : (p : ℕ) (posts : List Post) → count_for p posts ≤ length posts
count_at_most p posts =
    let size = length-filter (λ (post : Post). nat_eq post.peer p) posts in
    let few = count_by-le-length (λ (post : Post). nat_eq post.peer p) posts in
    omega arith

-- at these ends, at each of which this many posts at most find room, all find room
lacks_none : (ends : List Image) (posts : List Post) (most : ℕ) → ((p : ℕ) → count_for p posts ≤ most) → ((p : ℕ) (e : Image) (count : ℕ) → slice_get ends p ≡ Some e → count ≤ most → lacks e count ≡ false) → lacks_room ends posts ≡ false
lacks_none ends posts most few room = room_for_all ends posts (λ p. at_peer p (slice_get ends p) refl)
  where
    at_peer : (p : ℕ) (o : Option Image) → slice_get ends p ≡ o → lacks_at p (count_for p posts) ends ≡ false
    at_peer p None is = ap (λ (x : Option Image). peer_lacks x (count_for p posts)) is
    at_peer p (Some e) is = ap (λ (x : Option Image). peer_lacks x (count_for p posts)) is ∙ room p e (count_for p posts) is (few p)

pub if_done : {A : Type 0} (o : Outcome A) (made : A) (holds : A → Type 0) → o ≡ Done made → IfDone o holds → holds made
if_done {A = A} o made holds is h = let P : Outcome A → Type 0 = λ x. IfDone x holds in subst P is h

-- what the coordinator sends
pub coordinator_fits : (d : Draft) (programs : List Behaviour) (inputs : List Input) (v : CoordinatorNode) (ends : List Image) (q : ℕ) (signal : Signal) (m : Made CoordinatorNode) → v.draft ≡ d → of_coordinator.accepts v q signal ≡ Done m
    → ((p : ℕ) (e : Image) (count : ℕ) → slice_get ends p ≡ Some e → count ≤ 2 → lacks e count ≡ false) → lacks_room ends m.sent ≡ false
coordinator_fits d programs inputs v ends q signal m is does room =
    let n = network_of d programs inputs in
    let o = coordinator_accepts (network_of d programs inputs) (rule_of d programs inputs) (federate_record_at v.federate_records) q signal in
    let done = done_of (coordinator_makes (network_of d programs inputs) v) o m (sym (coordinator_accepts_listed d programs inputs v (federate_record_at v.federate_records) q signal is refl) ∙ does) in
    let made : Coordinated = done.0 in
    let few = if_done o made (λ (x : Coordinated). (j : ℕ) → length (sent_to j x.sent) ≤ 2) done.1 (coordinator_sends (network_of d programs inputs) (rule_of d programs inputs) (federate_record_at v.federate_records) q signal) in
    let sent : m.sent ≡ made.sent = ap (λ (x : Made CoordinatorNode). x.sent) done.2 in
    let each : (p : ℕ) → count_for p m.sent ≤ 2 = λ p. (let count = count_is p m.sent in let size : length (sent_to p m.sent) ≡ length (sent_to p made.sent) = ap (λ (x : List Post). length (sent_to p x)) sent in let here = few p in omega arith) in
    lacks_none ends m.sent 2 each room

-- what a federate sends
pub federate_fits : (ends : List Image) (v : FederateNode) (made : Stepped) (most : ℕ) → length made.sent ≤ most → ((p : ℕ) (e : Image) (count : ℕ) → slice_get ends p ≡ Some e → count ≤ most → lacks e count ≡ false) → lacks_room ends (of_federate.made_by v made).sent ≡ false
federate_fits ends v made most few room =
    lacks_none ends (map to_coordinator made.sent) most
    (λ p. (let some = count_at_most p (map to_coordinator made.sent) in let size = length-map made.sent to_coordinator in omega arith)) room

-- a federate has at most as many connections as the plan
few_found : (h : ConnectionDraft → Option Connection) (cs : List ConnectionDraft) → length (filter_map h cs) ≤ length cs
few_found h [] = omega arith
few_found h (c ∷ rest) = by_found (h c) (few_found h rest)
  where
    by_found : (o : Option Connection) → length (filter_map h rest) ≤ length rest → length (cons_option o (filter_map h rest)) ≤ length (c ∷ rest)
    by_found None more = omega arith
    by_found (Some found) more = omega arith

pub few_outgoing : (d : Draft) (programs : List Behaviour) (inputs : List Input) (j : ℕ) → IsLegal d → outgoing_count (network_of d programs inputs) j ≤ 1024
few_outgoing d programs inputs j legal =
    let size = length-filter (λ (c : Connection). nat_eq c.source j) (connections_of d) in
    let few = count_by-le-length (λ (c : Connection). nat_eq c.source j) (connections_of d) in
    let found = few_found (connection_of d.federates) d.connections in
    let most = legal.few_connections in
    omega arith

-- in each step, what a node sends fits
pub accept_few : (n : Network) (j : ℕ) (f : Federate) (signal : Signal) (made : Stepped) → federate_accepts n j f signal ≡ Done made → length made.sent ≤ 1025
accept_few n j f signal made is = let none = if_done (federate_accepts n j f signal) made (λ x. length x.sent ≡ 0) is (accept_sends n j f signal) in omega arith

pub announce_few : (f : Federate) (made : Stepped) → federate_announces f ≡ Done made → length made.sent ≤ 1025
announce_few f made is = let one = if_done (federate_announces f) made (λ x. length x.sent ≡ 1) is (announce_sends f) in omega arith

pub advance_few : (d : Draft) (programs : List Behaviour) (inputs : List Input) (j : ℕ) (f : Federate) (made : Stepped) → IsLegal d → federate_advances (network_of d programs inputs) j f ≡ Done made → length made.sent ≤ 1025
advance_few d programs inputs j f made legal is =
    let n = network_of d programs inputs in
    let few = if_done (federate_advances n j f) made (λ x. length x.sent ≤ outgoing_count n j + 1) is (advance_sends n j f) in
    let most = few_outgoing d programs inputs j legal in
    omega arith

-- so whatever a node sends in one step fits
if_made : {A : Type 0} (holds : A → Type 0) (o : Outcome A) → ((made : A) → o ≡ Done made → holds made) → IfDone o holds
if_made holds (Refused refusal) h = tt
if_made holds Nothing h = tt
if_made holds (Done made) h = h made refl

pub turn_fits : (d : Draft) (programs : List Behaviour) (inputs : List Input) (j : ℕ) (f : Federate) → IsLegal d → IfDone (federate_advances (network_of d programs inputs) j f) (λ made. length made.sent ≤ LINK_ROOM)
turn_fits d programs inputs j f legal = if_made (λ (made : Stepped). length made.sent ≤ LINK_ROOM) (federate_advances (network_of d programs inputs) j f) (λ made is. let few = advance_few d programs inputs j f made legal is in omega arith)

pub announcement_fits : (f : Federate) → IfDone (federate_announces f) (λ made. length made.sent ≤ LINK_ROOM)
announcement_fits f = if_made (λ (made : Stepped). length made.sent ≤ LINK_ROOM) (federate_announces f) (λ made is. let few = announce_few f made is in omega arith)

pub grants_fit : (n : Network) (rule : Rule) (federate_records : ℕ → FederateRecord) (i : ℕ) (signal : Signal) → IfDone (coordinator_accepts n rule federate_records i signal) (λ made. (j : ℕ) → length (sent_to j made.sent) ≤ LINK_ROOM)
grants_fit n rule federate_records i signal =
    if_made (λ (made : Coordinated). (j : ℕ) → length (sent_to j made.sent) ≤ LINK_ROOM) (coordinator_accepts n rule federate_records i signal)
    (λ made is j. let few = if_done (coordinator_accepts n rule federate_records i signal) made (λ (x : Coordinated). (j : ℕ) → length (sent_to j x.sent) ≤ 2) is (coordinator_sends n rule federate_records i signal) in let here = few j in omega arith)
