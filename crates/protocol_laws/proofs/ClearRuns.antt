-- Whatever moves are made, all that is pending stays clear of what is completed.
use Rattle.std.proofs.Common.{◌≡◌, ℕ, ◌+◌, ◌<◌, ◌≤◌, Bool, true, false, cond, List, [], ◌∷◌, ◌++◌, length, refl, sym, ap, subst, ◌∙◌, arith, Option, None, Some, ℤ}
use Rattle.std.specs.Prelude.{slice_get, map, nat_eq, if◌then◌else◌, not, ◌&&◌, ◌||◌}
use Rattle.std.proofs.Math.Path.{fun_ext}
use Rattle.std.proofs.lemmas.Bool.{eqb-true, eqb-false}
use Rattle.tag.specs.LogicalTime.{LogicalTime, IsLogicalTime, is_at_most, is_same, forever, place, is_past, is_reached}
use Rattle.tag.proofs.Order.{finite_is_logical, place_of_finite}
use Rattle.network.specs.Connection.{Connection}
use Rattle.network.specs.Network.{Network}
use Rattle.network.specs.Lawful.{IsLawful}
use Rattle.network.specs.Tables.{Table, IsAtMostEveryPath}
use Rattle.signal.specs.declared.signal.Signal.{Signal}
use Rattle.signal.specs.declared.signal.Signal.TheVariants.{Net, Ltc, Tag, Msg}
use Rattle.protocol.specs.declared.refusal.Refusal.TheVariants.{Late, OldGrant, WrongSignal, NotYours, BelowGrant, NotRising, AfterStop}
use Rattle.protocol.specs.Outcome.{Outcome, Refused, Nothing, Done, made_or, with_made}
use Rattle.network.specs.Undone.{PendingEvent, put, first_tag, look, drop_up_to}
use Rattle.protocol.specs.Federate.{is_told, next_event, accept_message, federate_announces, advance_to, turn_at, effect_of, scheduled_by, messages_from}
use Rattle.protocol.specs.FederateRecord.{FederateRecord, after_message, after_net, after_ltc}
use Rattle.protocol.specs.Grant.{Rule, IsSafeRule}
use Rattle.protocol.specs.declared.post.Post.{Post}
use Rattle.protocol.specs.Coordinator.{Coordinated, with_federate_record, noted, route, coordinator_takes, grant_to, grants_from, with_grants}
use Rattle.protocol.specs.Machine.{Member, Move, ToCoordinator, ToFederate, Announce, Advance, Lose, initial_member, with_member, federate_records_of, sent_to, coordinated, coordinator_takes_from, stepped, federate_takes_from, outcome_of, after_moves}
use Rattle.protocol_laws.proofs.Tags.{IsOptional, above, reached_true}
use Rattle.protocol_laws.proofs.Downward.{last_tag_is_later}
use Rattle.protocol_laws.proofs.StillUndone.{first_at_least, drop_is_undone}
use Rattle.protocol_laws.proofs.Turns.{messages_of_turn, scheduled_are_held}
use Rattle.protocol_laws.proofs.Kept.{first_is}
use Rattle.protocol_laws.proofs.Backing.{IsBacked, at_update}
use Rattle.protocol_laws.proofs.Safety.{IsSound, tag_if, sent-append, grants_sent, moves_sound}
use Rattle.protocol_laws.proofs.Chains.{IsClear}
use Rattle.protocol_laws.proofs.Clear.{AreClear, IsClearOver, AreUpClear, AreDownClear, IsMemberClear, put_clear, put_all_clear, drop_clear, up_clear-append, down_clear-append, completed_with, completed_of, IsTurn, ahead_of, held_after, down_after, up_after, scheduled_clear, messages_clear}

-- all members are clear
abbrev pub AllClear : Network → (ℕ → Member) → Type 0
AllClear n members = (k : ℕ) → IsMemberClear n (completed_of members) k (members k).federate.undone (members k).up (members k).down

abbrev pub MakesClear : Network → Outcome (ℕ → Member) → Type 0
MakesClear n (Refused refusal) = Unit {0}
MakesClear n Nothing = Unit {0}
MakesClear n (Done members) = AllClear n members

member_if : (n : Network) (completed : ℕ → Option LogicalTime) (k : ℕ) (mine other : Member) (b : Bool) → (b ≡ true → IsMemberClear n completed k mine.federate.undone mine.up mine.down) → (b ≡ false → IsMemberClear n completed k other.federate.undone other.up other.down) → IsMemberClear n completed k (if b then mine else other).federate.undone (if b then mine else other).up (if b then mine else other).down
member_if n completed k mine other true m o = m refl
member_if n completed k mine other false m o = o refl

completed_if : (mine other : Member) (b : Bool) → (if b then mine else other).federate.completed ≡ (if b then mine.federate.completed else other.federate.completed)
completed_if mine other true = refl
completed_if mine other false = refl

first_clear : (n : Network) (completed : ℕ → Option LogicalTime) (k : ℕ) (u : List PendingEvent) (g : LogicalTime) → first_tag u ≡ Some g → AreClear n completed k u → IsClear n completed k g
first_clear n completed k [] g e a = cc
first_clear n completed k (x ∷ rest) g e a = let same : x.tag ≡ g = cc in let P : LogicalTime → Type 0 = λ y. IsClear n completed k y in subst P same a.0

granted_far : (n : Network) (table : Table) (federate_records : ℕ → FederateRecord) (j : ℕ) (g : LogicalTime) (o : Option LogicalTime) → IsOptional o → place g < above o → IsBacked n table federate_records j o → (γ : LogicalTime) × IsLogicalTime γ × (place g ≤ place γ) × IsBacked n table federate_records j (Some γ)
granted_far n table federate_records j g None p l b = absurd (omega arith)
granted_far n table federate_records j g (Some γ) p l b = (γ, p, (let r : place g ≤ place γ = omega arith in r), b)

-- the federate of a turn
turn_mine : (n : Network) (table : Table) (members : ℕ → Member) (j : ℕ) (g γ : LogicalTime) → IsTurn n table members j g γ → first_tag (members j).federate.undone ≡ Some g → place g < above (members j).federate.granted → AllClear n members → IsMemberClear n (completed_with (completed_of members) j g) j (turn_at n j (members j).federate g).after.undone ((members j).up ++ (turn_at n j (members j).federate g).sent) (members j).down
turn_mine n table members j g γ t first reached clear =
    let k = t.kept j in
    let f = (members j).federate in
    let stop = finite_is_logical n.stop t.lawful.stop in
    let end = place_of_finite n.stop t.lawful.stop in
    let is = first_is n.stop (above f.completed) f.undone g k.undone first in
    let high = is.2 in
    let least = is.3 in
    let next = k.next_undone in
    let g_clear = first_clear n (completed_of members) j f.undone g first (clear j).held in
    let ahead = ahead_of n table members j j g γ g t is.0 (omega arith) g_clear in
    let held = scheduled_are_held n j g (effect_of n j f g).schedulings is.0 stop (omega arith) (t.lawful.schedulings j f.states (look f.undone g)) in
    let kept = drop_is_undone n.stop (above f.completed) (place g + 1) g f.undone is.0 k.undone (omega arith) in
    let later = first_at_least n.stop (place g + 1) (drop_up_to g f.undone) (omega arith) kept in
    let messages = messages_of_turn n j g (effect_of n j f g).outputs 0 n.connections (λ m. (let e : m ≡ 0 + m = omega arith in ap (slice_get n.connections) e)) in
    record {
      held =
          put_all_clear n (completed_with (completed_of members) j g) j (scheduled_by n g (effect_of n j f g)) (drop_up_to g f.undone)
          (scheduled_clear n (completed_of members) j g γ (scheduled_by n g (effect_of n j f g)) t.lawful is.0 held t.within g_clear ahead)
          (held_after n table members j j (place g + 1) g γ (drop_up_to g f.undone) t kept (omega arith) (λ e. later) (drop_clear n (completed_of members) j g f.undone (clear j).held));
      upward =
          up_clear-append n (completed_with (completed_of members) j g) (members j).up (turn_at n j f g).sent
          (up_after n table members j j (above (members j).federate_record.completed) g γ (members j).up t k.upward (omega arith) k.next_key (clear j).upward)
          (up_clear-append n (completed_with (completed_of members) j g) (messages_from n j g (effect_of n j f g).outputs 0 n.connections) (Ltc g ∷ [])
          (messages_clear n (completed_of members) j g γ (messages_from n j g (effect_of n j f g).outputs 0 n.connections) messages t.within g_clear ahead) tt);
      downward = down_after n table members j j (above f.granted) g γ (members j).federate_record.transit (members j).down t k.downward k.covered k.next_transit (λ e. omega arith) (clear j).downward;
    }

turn_other : (n : Network) (table : Table) (members : ℕ → Member) (j k : ℕ) (g γ : LogicalTime) → IsTurn n table members j g γ → (k ≡ j → ⊥) → AllClear n members → IsMemberClear n (completed_with (completed_of members) j g) k (members k).federate.undone (members k).up (members k).down
turn_other n table members j k g γ t apart clear =
    let kept = t.kept k in
    record {
      held = held_after n table members j k (above (members k).federate.completed) g γ (members k).federate.undone t kept.undone kept.next_undone (λ e. absurd (apart e)) (clear k).held;
      upward = up_after n table members k j (above (members k).federate_record.completed) g γ (members k).up t kept.upward (omega arith) kept.next_key (clear k).upward;
      downward = down_after n table members j k (above (members k).federate.granted) g γ (members k).federate_record.transit (members k).down t kept.downward kept.covered kept.next_transit (λ e. absurd (apart e)) (clear k).downward;
    }

turn_clears : (n : Network) (table : Table) (members : ℕ → Member) (j : ℕ) (g : LogicalTime) → IsLawful n → IsAtMostEveryPath n table → IsSound n table members → first_tag (members j).federate.undone ≡ Some g → is_reached (members j).federate.granted g ≡ true → AllClear n members → AllClear n (with_member members j (stepped (members j) (members j).down (turn_at n j (members j).federate g)))
turn_clears n table members j g lawful facts sound first reached clear =
    let k = sound.kept j in
    let is = first_is n.stop (above (members j).federate.completed) (members j).federate.undone g k.undone first in
    let far = reached_true (members j).federate.granted g k.own_granted_tag is.0 reached in
    let rises = last_tag_is_later n j (above (members j).federate.granted) (members j).down k.downward in
    let last = k.last in
    let grant = granted_far n table (federate_records_of members) j g (members j).federate_record.granted k.granted_tag (omega arith) (sound.backed j) in
    let t : IsTurn n table members j g grant.0 = record { lawful = lawful; facts = facts; kept = sound.kept; logical = grant.1; within = grant.2; backed = grant.3 } in
    let mine : Member = stepped (members j) (members j).down (turn_at n j (members j).federate g) in
    let same : completed_of (with_member members j mine) ≡ completed_with (completed_of members) j g = fun_ext (λ i. completed_if mine (members i) (nat_eq i j)) in
    let own = turn_mine n table members j g grant.0 t first far clear in
    let P : (ℕ → Option LogicalTime) → Type 0 = λ c. (x : ℕ) → IsMemberClear n c x (with_member members j mine x).federate.undone (with_member members j mine x).up (with_member members j mine x).down in
    let Q : ℕ → Type 0 = λ x. IsMemberClear n (completed_with (completed_of members) j g) x mine.federate.undone mine.up mine.down in
    subst P (sym same)
    (λ x. member_if n (completed_with (completed_of members) j g) x mine (members x) (nat_eq x j)
    (λ e. subst Q (sym (eqb-true x j e)) own)
    (λ e. turn_other n table members j x g grant.0 t (eqb-false x j e) clear))

-- a member is replaced by one that completed the same
kept_clears : (n : Network) (members : ℕ → Member) (i : ℕ) (mine : Member) → mine.federate.completed ≡ (members i).federate.completed → IsMemberClear n (completed_of members) i mine.federate.undone mine.up mine.down → AllClear n members → AllClear n (with_member members i mine)
kept_clears n members i mine e own clear =
    let P : (ℕ → Option LogicalTime) → Type 0 = λ c. (x : ℕ) → IsMemberClear n c x (with_member members i mine x).federate.undone (with_member members i mine x).up (with_member members i mine x).down in
    let same : completed_of (with_member members i mine) ≡ completed_of members = fun_ext (λ x. (
    let S : Member → Type 0 = λ m. m.federate.completed ≡ (members x).federate.completed in
    at_update S mine (members x) x i (λ q. e ∙ ap (λ y. (members y).federate.completed) (sym q)) refl)) in
    let Q : ℕ → Type 0 = λ x. IsMemberClear n (completed_of members) x mine.federate.undone mine.up mine.down in
    subst P (sym same)
    (λ x. member_if n (completed_of members) x mine (members x) (nat_eq x i) (λ q. subst Q (sym (eqb-true x i q)) own) (λ q. clear x))

-- how one federate's step ends: what it completed stays
abbrev pub StaysClear : Network → (ℕ → Option LogicalTime) → ℕ → Option LogicalTime → Outcome Member → Type 0
StaysClear n completed i was (Refused refusal) = Unit {0}
StaysClear n completed i was Nothing = Unit {0}
StaysClear n completed i was (Done m) = (m.federate.completed ≡ was) × IsMemberClear n completed i m.federate.undone m.up m.down

stays_unless : (n : Network) (members : ℕ → Member) (i : ℕ) (o : Outcome Member) (b : Bool) → StaysClear n (completed_of members) i (members i).federate.completed o → AllClear n members → MakesClear n (if b then Nothing else with_made (with_member members i) o)
stays_unless n members i o true s clear = tt
stays_unless n members i (Refused refusal) false s clear = tt
stays_unless n members i Nothing false s clear = tt
stays_unless n members i (Done m) false s clear = kept_clears n members i m s.0 s.1 clear

two_ifs : {A : Type 0} (P : Outcome A → Type 0) (b c : Bool) (x y z : Outcome A) → P x → P y → P z → P (if not b then z else if not c then y else x)
two_ifs P true true x y z p q r = p
two_ifs P true false x y z p q r = q
two_ifs P false c x y z p q r = r

three_ifs : {A : Type 0} (P : Outcome A → Type 0) (b c d : Bool) (x y z u : Outcome A) → P x → P y → P z → P u → P (if not b then u else if not c then z else if not d then y else x)
three_ifs P true true true x y z u p q r t = p
three_ifs P true true false x y z u p q r t = q
three_ifs P true false d x y z u p q r t = r
three_ifs P false c d x y z u p q r t = t

with_nothing : (n : Network) (completed : ℕ → Option LogicalTime) (up : List Signal) → AreUpClear n completed up → AreUpClear n completed (up ++ [])
with_nothing n completed up a = up_clear-append n completed up [] a tt

message_stays : (n : Network) (completed : ℕ → Option LogicalTime) (i : ℕ) (m : Member) (rest : List Signal) (o : Option Connection) (s : LogicalTime) (v : ℤ) → IsClear n completed i s → IsMemberClear n completed i m.federate.undone m.up rest → StaysClear n completed i m.federate.completed (with_made (stepped m rest) (accept_message n i m.federate o s v))
message_stays n completed i m rest None s v p a = tt
message_stays n completed i m rest (Some c) s v p a =
    two_ifs (λ x. StaysClear n completed i m.federate.completed (with_made (stepped m rest) x)) (nat_eq c.target i && is_at_most s n.stop) (is_past m.federate.completed s && is_past m.federate.granted s)
    (Done (record { after = record m.federate { undone = put (record { tag = s; slot = c.slot; value = v }) m.federate.undone }; sent = [] })) (Refused Late) (Refused WrongSignal)
    (refl, record { held = put_clear n completed i (record { tag = s; slot = c.slot; value = v }) m.federate.undone p a.held; upward = with_nothing n completed m.up a.upward; downward = a.downward })
    tt tt

take_stays : (n : Network) (completed : ℕ → Option LogicalTime) (i : ℕ) (m : Member) (down : List Signal) → IsMemberClear n completed i m.federate.undone m.up down → StaysClear n completed i m.federate.completed (federate_takes_from n i m down)
take_stays n completed i m [] a = tt
take_stays n completed i m (Net g ∷ rest) a = tt
take_stays n completed i m (Ltc g ∷ rest) a = tt
take_stays n completed i m (Tag g ∷ rest) a =
    two_ifs (λ x. StaysClear n completed i m.federate.completed (with_made (stepped m rest) x)) (is_at_most g n.stop) (is_past m.federate.granted g)
    (Done (record { after = record m.federate { granted = Some g }; sent = [] })) (Refused OldGrant) (Refused WrongSignal)
    (refl, record { held = a.held; upward = with_nothing n completed m.up a.upward; downward = a.downward }) tt tt
take_stays n completed i m (Msg c s v ∷ rest) a =
    message_stays n completed i m rest (slice_get n.connections c) s v a.downward.0 (record { held = a.held; upward = a.upward; downward = a.downward.1 })

announce_stays : (n : Network) (completed : ℕ → Option LogicalTime) (i : ℕ) (m : Member) (b : Bool) → IsMemberClear n completed i m.federate.undone m.up m.down → StaysClear n completed i m.federate.completed (with_made (stepped m m.down) (if b then Nothing else Done (record { after = record m.federate { announced = Some (next_event m.federate) }; sent = Net (next_event m.federate) ∷ [] })))
announce_stays n completed i m true a = tt
announce_stays n completed i m false a = (refl, record { held = a.held; upward = up_clear-append n completed m.up (Net (next_event m.federate) ∷ []) a.upward tt; downward = a.downward })

advance_if : (n : Network) (table : Table) (members : ℕ → Member) (j : ℕ) (g : LogicalTime) (lost b : Bool) → IsLawful n → IsAtMostEveryPath n table → IsSound n table members → first_tag (members j).federate.undone ≡ Some g → (b ≡ true → is_reached (members j).federate.granted g ≡ true) → AllClear n members → MakesClear n (if lost then Nothing else with_made (with_member members j) (with_made (stepped (members j) (members j).down) (if b then Done (turn_at n j (members j).federate g) else Nothing)))
advance_if n table members j g true b lawful facts sound first reached clear = tt
advance_if n table members j g false true lawful facts sound first reached clear = turn_clears n table members j g lawful facts sound first (reached refl) clear
advance_if n table members j g false false lawful facts sound first reached clear = tt

advance_clears : (n : Network) (table : Table) (members : ℕ → Member) (j : ℕ) (o : Option LogicalTime) (lost : Bool) → IsLawful n → IsAtMostEveryPath n table → IsSound n table members → first_tag (members j).federate.undone ≡ o → AllClear n members → MakesClear n (if lost then Nothing else with_made (with_member members j) (with_made (stepped (members j) (members j).down) (advance_to n j (members j).federate o)))
advance_clears n table members j None true lawful facts sound first clear = tt
advance_clears n table members j None false lawful facts sound first clear = tt
advance_clears n table members j (Some g) lost lawful facts sound first clear = advance_if n table members j g lost (is_reached (members j).federate.granted g) lawful facts sound first (λ t. t) clear

-- what the coordinator sends is clear
abbrev pub SendsClear : Network → (ℕ → Option LogicalTime) → Outcome Coordinated → Type 0
SendsClear n completed (Refused refusal) = Unit {0}
SendsClear n completed Nothing = Unit {0}
SendsClear n completed (Done made) = (j : ℕ) → AreDownClear n completed j (sent_to j made.sent)

post_clear : (n : Network) (completed : ℕ → Option LogicalTime) (j target k : ℕ) (s : LogicalTime) (v : ℤ) (b : Bool) → (b ≡ true → IsClear n completed j s) → AreDownClear n completed j (map (λ (p : Post). p.signal) (cond b (record { peer = target; signal = Msg k s v } ∷ []) []))
post_clear n completed j target k s v true c = (c refl, tt)
post_clear n completed j target k s v false c = tt

route_sends : (n : Network) (completed : ℕ → Option LogicalTime) (federate_records : ℕ → FederateRecord) (i k : ℕ) (s : LogicalTime) (v : ℤ) (o : Option Connection) → IsClearOver n completed o s → SendsClear n completed (route n federate_records i (Msg k s v) o s)
route_sends n completed federate_records i k s v None c = tt
route_sends n completed federate_records i k s v (Some c) clear =
    three_ifs (SendsClear n completed) (nat_eq c.source i) (is_at_most s n.stop) (is_past (federate_records c.target).granted s)
    (Done (record { after = with_federate_record federate_records c.target (after_message (federate_records c.target) s); sent = record { peer = c.target; signal = Msg k s v } ∷ [] }))
    (Refused BelowGrant) (Refused AfterStop) (Refused NotYours)
    (λ j. post_clear n completed j c.target k s v (nat_eq j c.target) (λ e. (let P : ℕ → Type 0 = λ x. IsClear n completed x s in subst P (sym (eqb-true j c.target e)) clear)))
    tt tt tt

coordinator_sends : (n : Network) (completed : ℕ → Option LogicalTime) (federate_records : ℕ → FederateRecord) (i : ℕ) (signal : Signal) (rest : List Signal) → AreUpClear n completed (signal ∷ rest) → SendsClear n completed (coordinator_takes n federate_records i signal)
coordinator_sends n completed federate_records i (Net g) rest a =
    two_ifs (SendsClear n completed) (is_at_most g n.stop || is_same g forever) (is_past (federate_records i).completed g) (Done (noted federate_records i (after_net (federate_records i) g))) (Refused NotRising) (Refused AfterStop) (λ j. tt) tt tt
coordinator_sends n completed federate_records i (Ltc g) rest a =
    two_ifs (SendsClear n completed) (is_at_most g n.stop) (is_past (federate_records i).completed g) (Done (noted federate_records i (after_ltc (federate_records i) g))) (Refused NotRising) (Refused AfterStop) (λ j. tt) tt tt
coordinator_sends n completed federate_records i (Tag g) rest a = tt
coordinator_sends n completed federate_records i (Msg k s v) rest a = route_sends n completed federate_records i k s v (slice_get n.connections k) a.0

rest_clear : (n : Network) (completed : ℕ → Option LogicalTime) (signal : Signal) (rest : List Signal) → AreUpClear n completed (signal ∷ rest) → AreUpClear n completed rest
rest_clear n completed (Net g) rest a = a
rest_clear n completed (Ltc g) rest a = a
rest_clear n completed (Tag g) rest a = a
rest_clear n completed (Msg k s v) rest a = a.1

tag_clear : (n : Network) (completed : ℕ → Option LogicalTime) (j : ℕ) (o : Option LogicalTime) → AreDownClear n completed j (tag_if o)
tag_clear n completed j None = tt
tag_clear n completed j (Some g) = tt

made_clears : (n : Network) (rule : Rule) (members : ℕ → Member) (made : Coordinated) → AllClear n members → ((j : ℕ) → AreDownClear n (completed_of members) j (sent_to j made.sent)) → AllClear n (λ j. coordinated (with_grants n rule made) j (members j))
made_clears n rule members made clear sent k =
    let all : sent_to k (made.sent ++ grants_from n rule made.after 0 n.reactors) ≡ sent_to k made.sent ++ tag_if (grant_to n rule made.after k) =
    sent-append k made.sent (grants_from n rule made.after 0 n.reactors) ∙ ap (λ x. sent_to k made.sent ++ x) (grants_sent n rule made.after k) in
    let P : List Signal → Type 0 = λ x. AreDownClear n (completed_of members) k x in
    let more = subst P (sym all) (down_clear-append n (completed_of members) k (sent_to k made.sent) (tag_if (grant_to n rule made.after k)) (sent k) (tag_clear n (completed_of members) k (grant_to n rule made.after k))) in
    record { held = (clear k).held; upward = (clear k).upward; downward = down_clear-append n (completed_of members) k (members k).down (sent_to k (made.sent ++ grants_from n rule made.after 0 n.reactors)) (clear k).downward more }

coordinated_clears : (n : Network) (rule : Rule) (members : ℕ → Member) (o : Outcome Coordinated) → AllClear n members → SendsClear n (completed_of members) o → MakesClear n (with_made (λ made. λ j. coordinated made j (members j)) (with_made (with_grants n rule) o))
coordinated_clears n rule members (Refused refusal) clear sent = tt
coordinated_clears n rule members Nothing clear sent = tt
coordinated_clears n rule members (Done made) clear sent = made_clears n rule members made clear sent

popped_completed : (members : ℕ → Member) (i : ℕ) (rest : List Signal) → completed_of (with_member members i (record (members i) { up = rest })) ≡ completed_of members
popped_completed members i rest = fun_ext (λ x. (
    let S : Member → Type 0 = λ m. m.federate.completed ≡ (members x).federate.completed in
    at_update S (record (members i) { up = rest }) (members x) x i (λ q. ap (λ y. (members y).federate.completed) (sym q)) refl))

coordinator_clears : (n : Network) (rule : Rule) (members : ℕ → Member) (i : ℕ) (up : List Signal) → AreUpClear n (completed_of members) up → AllClear n members → MakesClear n (coordinator_takes_from n rule members i up)
coordinator_clears n rule members i [] a clear = tt
coordinator_clears n rule members i (signal ∷ rest) a clear =
    let popped = kept_clears n members i (record (members i) { up = rest }) refl (record { held = (clear i).held; upward = rest_clear n (completed_of members) signal rest a; downward = (clear i).downward }) clear in
    let P : (ℕ → Option LogicalTime) → Type 0 = λ c. SendsClear n c (coordinator_takes n (federate_records_of members) i signal) in
    coordinated_clears n rule (with_member members i (record (members i) { up = rest })) (coordinator_takes n (federate_records_of members) i signal) popped
    (subst P (sym (popped_completed members i rest)) (coordinator_sends n (completed_of members) (federate_records_of members) i signal rest a))

move_clears : (n : Network) (table : Table) (rule : Rule) (members : ℕ → Member) (move : Move) → IsLawful n → IsAtMostEveryPath n table → IsSound n table members → AllClear n members → MakesClear n (outcome_of n rule members move)
move_clears n table rule members (ToCoordinator i) lawful facts sound clear = coordinator_clears n rule members i (members i).up (clear i).upward clear
move_clears n table rule members (ToFederate i) lawful facts sound clear = stays_unless n members i (federate_takes_from n i (members i) (members i).down) (members i).lost (take_stays n (completed_of members) i (members i) (members i).down (clear i)) clear
move_clears n table rule members (Announce i) lawful facts sound clear =
    stays_unless n members i (with_made (stepped (members i) (members i).down) (federate_announces (members i).federate)) (members i).lost
    (announce_stays n (completed_of members) i (members i) (is_told (members i).federate.announced (next_event (members i).federate)) (clear i)) clear
move_clears n table rule members (Advance i) lawful facts sound clear = advance_clears n table members i (first_tag (members i).federate.undone) (members i).lost lawful facts sound refl clear
move_clears n table rule members (Lose i) lawful facts sound clear = kept_clears n members i (record (members i) { lost = true }) refl (clear i) clear

made_or_clear : (n : Network) (members : ℕ → Member) (o : Outcome (ℕ → Member)) → AllClear n members → MakesClear n o → AllClear n (made_or members o)
made_or_clear n members (Refused refusal) c m = c
made_or_clear n members Nothing c m = c
made_or_clear n members (Done after) c m = m

none_completed : (n : Network) (k : ℕ) (u : List PendingEvent) → AreClear n (λ j. None) k u
none_completed n k [] = tt
none_completed n k (x ∷ rest) = ((λ j path w. omega arith), none_completed n k rest)

-- after every list of moves
pub moves_clear : (n : Network) (table : Table) (rules : ℕ → Rule) (moves : List Move) → IsLawful n → IsAtMostEveryPath n table → ((k : ℕ) → IsSafeRule n table (rules k)) → AllClear n (after_moves n rules moves)
moves_clear n table rules [] lawful facts safe = λ k. record { held = none_completed n k (initial_member n k).federate.undone; upward = tt; downward = tt }
moves_clear n table rules (move ∷ earlier) lawful facts safe =
    made_or_clear n (after_moves n rules earlier) (outcome_of n (rules (length earlier)) (after_moves n rules earlier) move) (moves_clear n table rules earlier lawful facts safe)
    (move_clears n table (rules (length earlier)) (after_moves n rules earlier) move lawful facts (moves_sound n table rules earlier lawful facts safe) (moves_clear n table rules earlier lawful facts safe))
