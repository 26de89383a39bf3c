-- What both kinds of nodes do, as moves of the machine of queues.
use Rattle.std.proofs.Common.{◌≡◌, ℕ, Bool, true, false, not, ◌&&◌, ◌||◌, List, [], ◌∷◌, map, slice_get, refl, sym, ap, subst, ◌∙◌, Option, None, Some, if◌then◌else◌}
use Rattle.std.specs.Prelude.{nat_eq}
use Rattle.tag.specs.LogicalTime.{LogicalTime, forever, is_at_most, is_same, is_past, is_reached}
use Rattle.network.specs.Connection.{Connection}
use Rattle.network.specs.Network.{Network}
use Rattle.signal.specs.declared.signal.Signal.{Signal}
use Rattle.signal.specs.declared.signal.Signal.TheVariants.{Net, Ltc, Tag, Msg}
use Rattle.plan.specs.declared.draft.Draft.{Draft}
use Rattle.plan.specs.declared.input.Input.{Input}
use Rattle.plan.specs.Least.{least_of}
use Rattle.reactor_program.specs.Behaviour.{Behaviour}
use Rattle.plan_network.specs.Network.{network_of}
use Rattle.protocol.specs.declared.refusal.Refusal.{Refusal}
use Rattle.protocol.specs.declared.refusal.Refusal.TheVariants.{Late, OldGrant, WrongSignal, NotYours, BelowGrant, NotRising, AfterStop}
use Rattle.protocol.specs.Outcome.{Outcome, Refused, Nothing, Done, made_or, with_made}
use Rattle.protocol.specs.Federate.{Federate, Stepped, is_told, next_event, turn_at, accept_message, advance_to, federate_accepts, federate_announces, federate_advances}
use Rattle.protocol.specs.FederateRecord.{FederateRecord}
use Rattle.protocol.specs.Grant.{Rule, grant_widest}
use Rattle.protocol.specs.Coordinator.{Coordinated, route, coordinator_takes, with_grants, coordinator_accepts}
use Rattle.protocol.specs.FederateRecords.{federate_record_at, listed_after}
use Rattle.protocol.specs.Machine.{Member, Move, ToCoordinator, ToFederate, Announce, Advance, with_member, federate_records_of, sent_to, coordinated, coordinator_takes_from, federate_takes_from, stepped, unless_lost, outcome_of, after_moves}
use Rattle.node.specs.Core.{Made}
use Rattle.node_cores.specs.FederateCore.{to_coordinator}
use Rattle.node_cores.specs.CoordinatorCore as of_coordinator
use Rattle.node_cores.specs.CoordinatorCore.{CoordinatorNode, wiring_in, rule_in}
use Rattle.protocol_laws.proofs.Wired.{accepts_same}

-- outcomes with more done to them
composed : {A B C : Type 0} (f : B → C) (g : A → B) (o : Outcome A) → with_made f (with_made g o) ≡ with_made (λ x. f (g x)) o
composed f g (Refused refusal) = refl
composed f g Nothing = refl
composed f g (Done made) = refl

done_is : {A : Type 0} (x y : A) → Done x ≡ Done y → x ≡ y
done_is x y e = cc

pub done_of : {A B : Type 0} (g : A → B) (o : Outcome A) (m : B) → with_made g o ≡ Done m → (made : A) × (o ≡ Done made) × (m ≡ g made)
done_of g (Refused refusal) m e = cc
done_of g Nothing m e = cc
done_of g (Done made) m e = (made, refl, sym (done_is (g made) m e))

pub refused_of : {A B : Type 0} (g : A → B) (o : Outcome A) (refusal : Refusal) → with_made g o ≡ Refused refusal → o ≡ Refused refusal
refused_of g (Refused other) refusal e = cc
refused_of g Nothing refusal e = cc
refused_of g (Done made) refusal e = cc

pub nothing_of : {A B : Type 0} (g : A → B) (o : Outcome A) → with_made g o ≡ Nothing → o ≡ Nothing
nothing_of g (Refused other) e = cc
nothing_of g Nothing e = refl
nothing_of g (Done made) e = cc

-- what is refused or done isn't nothing
abbrev IsSomething : {A : Type 0} → Outcome A → Type 0
IsSomething (Refused refusal) = Unit {0}
IsSomething Nothing = ⊥
IsSomething (Done made) = Unit {0}

not_nothing : {A : Type 0} (o : Outcome A) → IsSomething o → o ≡ Nothing → ⊥
not_nothing (Refused refusal) h e = cc
not_nothing Nothing h e = h
not_nothing (Done made) h e = cc

if_refused : {A : Type 0} (b : Bool) (refusal : Refusal) (o : Outcome A) → IsSomething o → IsSomething (if b then Refused refusal else o)
if_refused true refusal o h = tt
if_refused false refusal o h = h

route_something : (n : Network) (federate_records : ℕ → FederateRecord) (i : ℕ) (signal : Signal) (o : Option Connection) (tag : LogicalTime) → IsSomething (route n federate_records i signal o tag)
route_something n federate_records i signal None tag = tt
route_something n federate_records i signal (Some c) tag =
    if_refused (not (nat_eq c.source i)) NotYours _
    (if_refused (not (is_at_most tag n.stop)) AfterStop _ (if_refused (not (is_past (federate_records c.target).granted tag)) BelowGrant _ tt))

takes_something : (n : Network) (federate_records : ℕ → FederateRecord) (i : ℕ) (signal : Signal) → IsSomething (coordinator_takes n federate_records i signal)
takes_something n federate_records i (Net tag) =
    if_refused (not (is_at_most tag n.stop || is_same tag forever)) AfterStop _ (if_refused (not (is_past (federate_records i).completed tag)) NotRising _ tt)
takes_something n federate_records i (Ltc tag) =
    if_refused (not (is_at_most tag n.stop)) AfterStop _ (if_refused (not (is_past (federate_records i).completed tag)) NotRising _ tt)
takes_something n federate_records i (Tag tag) = tt
takes_something n federate_records i (Msg k tag v) = route_something n federate_records i (Msg k tag v) (slice_get n.connections k) tag

-- the coordinator takes each signal or refuses it
pub coordinator_answers : (n : Network) (rule : Rule) (federate_records : ℕ → FederateRecord) (i : ℕ) (signal : Signal) → coordinator_accepts n rule federate_records i signal ≡ Nothing → ⊥
coordinator_answers n rule federate_records i signal e =
    not_nothing (coordinator_takes n federate_records i signal) (takes_something n federate_records i signal) (nothing_of (with_grants n rule) (coordinator_takes n federate_records i signal) e)

message_something : (n : Network) (j : ℕ) (f : Federate) (o : Option Connection) (tag : LogicalTime) (v : _) → IsSomething (accept_message n j f o tag v)
message_something n j f None tag v = tt
message_something n j f (Some c) tag v =
    if_refused (not (nat_eq c.target j && is_at_most tag n.stop)) WrongSignal _ (if_refused (not (is_past f.completed tag && is_past f.granted tag)) Late _ tt)

accepts_something : (n : Network) (j : ℕ) (f : Federate) (signal : Signal) → IsSomething (federate_accepts n j f signal)
accepts_something n j f (Net tag) = tt
accepts_something n j f (Ltc tag) = tt
accepts_something n j f (Tag tag) = if_refused (not (is_at_most tag n.stop)) WrongSignal _ (if_refused (not (is_past f.granted tag)) OldGrant _ tt)
accepts_something n j f (Msg k tag v) = message_something n j f (slice_get n.connections k) tag v

-- so does a federate
pub federate_answers : (n : Network) (j : ℕ) (f : Federate) (signal : Signal) → federate_accepts n j f signal ≡ Nothing → ⊥
federate_answers n j f signal e = not_nothing (federate_accepts n j f signal) (accepts_something n j f signal) e

-- by itself a federate refuses nothing
pub announces_freely : (f : Federate) (refusal : Refusal) → federate_announces f ≡ Refused refusal → ⊥
announces_freely f refusal e = unless_told (is_told f.announced (next_event f)) (record { after = record f { announced = Some (next_event f) }; sent = Net (next_event f) ∷ [] }) refusal e
  where
    unless_told : (b : Bool) (made : Stepped) (refusal : Refusal) → (if b then Nothing else Done made) ≡ Refused refusal → ⊥
    unless_told true made refusal e = cc
    unless_told false made refusal e = cc

pub advances_freely : (n : Network) (j : ℕ) (f : Federate) (o : Option LogicalTime) (refusal : Refusal) → advance_to n j f o ≡ Refused refusal → ⊥
advances_freely n j f None refusal e = cc
advances_freely n j f (Some tag) refusal e = by_grant (is_reached f.granted tag) e
  where
    by_grant : (b : Bool) → (if b then Done (turn_at n j f tag) else Nothing) ≡ Refused refusal → ⊥
    by_grant true e = cc
    by_grant false e = cc

-- the rule by which the coordinator of a federation grants
abbrev pub rule_of : Draft → List Behaviour → List Input → Rule
rule_of d programs inputs = grant_widest (network_of d programs inputs) (least_of d)

-- what the coordinator's node makes of a step
abbrev pub coordinator_makes : Network → CoordinatorNode → Coordinated → Made CoordinatorNode
coordinator_makes n v made = of_coordinator.made_by v (listed_after n.reactors made)

-- the coordinator's node goes by the network
pub coordinator_accepts_listed : (d : Draft) (programs : List Behaviour) (inputs : List Input) (v : CoordinatorNode) (federate_records : ℕ → FederateRecord) (q : ℕ) (signal : Signal) → v.draft ≡ d → federate_record_at v.federate_records ≡ federate_records
    → of_coordinator.accepts v q signal ≡ with_made (coordinator_makes (network_of d programs inputs) v) (coordinator_accepts (network_of d programs inputs) (rule_of d programs inputs) federate_records q signal)
coordinator_accepts_listed d programs inputs v federate_records q signal is stands =
    let n = network_of d programs inputs in
    let P : Draft → Type 0 = λ x. of_coordinator.accepts v q signal ≡ with_made (of_coordinator.made_by v) (with_made (listed_after (wiring_in x).reactors) (coordinator_accepts (wiring_in x) (rule_in x) (federate_record_at v.federate_records) q signal)) in
    let Q : (ℕ → FederateRecord) → Type 0 = λ s. of_coordinator.accepts v q signal ≡ with_made (coordinator_makes (network_of d programs inputs) v) (coordinator_accepts (network_of d programs inputs) (rule_of d programs inputs) s q signal) in
    subst Q stands
    (subst P is refl ∙ composed (of_coordinator.made_by v) (listed_after (network_of d programs inputs).reactors) (coordinator_accepts (wiring_in d) (rule_in d) (federate_record_at v.federate_records) q signal) ∙
    ap (with_made (coordinator_makes (network_of d programs inputs) v)) (sym (accepts_same (network_of d programs inputs) (rule_of d programs inputs) (federate_record_at v.federate_records) q signal)))

-- what is sent to the coordinator
pub sent_up : (signals : List Signal) → sent_to 0 (map to_coordinator signals) ≡ signals
sent_up [] = refl
sent_up (s ∷ rest) = ap (λ (x : List Signal). s ∷ x) (sent_up rest)

-- moves
pub moved_to : (n : Network) (rule : Rule) (moves : List Move) (move : Move) (after : ℕ → Member) → outcome_of n rule (after_moves n (λ k. rule) moves) move ≡ Done after → after_moves n (λ k. rule) (move ∷ moves) ≡ after
moved_to n rule moves move after e = ap (made_or (after_moves n (λ k. rule) moves)) e

pub coordinator_move : (n : Network) (rule : Rule) (members : ℕ → Member) (q : ℕ) (signal : Signal) (rest : List Signal) → (members q).up ≡ signal ∷ rest
    → outcome_of n rule members (ToCoordinator q) ≡ with_made (λ made. λ j. coordinated made j (with_member members q (record (members q) { up = rest }) j)) (coordinator_accepts n rule (federate_records_of members) q signal)
coordinator_move n rule members q signal rest e = ap (coordinator_takes_from n rule members q) e

if_there : (members : ℕ → Member) (j : ℕ) (o : Outcome Member) → (members j).lost ≡ false → unless_lost members j o ≡ with_made (with_member members j) o
if_there members j o e = ap (λ (b : Bool). if b then Nothing else with_made (with_member members j) o) e

pub federate_move : (n : Network) (rule : Rule) (members : ℕ → Member) (j : ℕ) (signal : Signal) (rest : List Signal) → (members j).lost ≡ false → (members j).down ≡ signal ∷ rest
    → outcome_of n rule members (ToFederate j) ≡ with_made (λ made. with_member members j (stepped (members j) rest made)) (federate_accepts n j (members j).federate signal)
federate_move n rule members j signal rest lost e =
    if_there members j (federate_takes_from n j (members j) (members j).down) lost ∙
    ap (λ (x : List Signal). with_made (with_member members j) (federate_takes_from n j (members j) x)) e ∙
    composed (with_member members j) (stepped (members j) rest) (federate_accepts n j (members j).federate signal)

pub announce_move : (n : Network) (rule : Rule) (members : ℕ → Member) (j : ℕ) → (members j).lost ≡ false
    → outcome_of n rule members (Announce j) ≡ with_made (λ made. with_member members j (stepped (members j) (members j).down made)) (federate_announces (members j).federate)
announce_move n rule members j lost =
    if_there members j (with_made (stepped (members j) (members j).down) (federate_announces (members j).federate)) lost ∙
    composed (with_member members j) (stepped (members j) (members j).down) (federate_announces (members j).federate)

pub advance_move : (n : Network) (rule : Rule) (members : ℕ → Member) (j : ℕ) → (members j).lost ≡ false
    → outcome_of n rule members (Advance j) ≡ with_made (λ made. with_member members j (stepped (members j) (members j).down made)) (federate_advances n j (members j).federate)
advance_move n rule members j lost =
    if_there members j (with_made (stepped (members j) (members j).down) (federate_advances n j (members j).federate)) lost ∙
    composed (with_member members j) (stepped (members j) (members j).down) (federate_advances n j (members j).federate)
