-- The coordinator's move takes 2 from what all can still do; and by one step each federate is sent two signals at most.
use Rattle.std.proofs.Common.{◌≡◌, ℕ, ◌+◌, ◌*◌, ◌-◌, ◌<◌, ◌≤◌, Bool, true, false, IsTrue, List, [], ◌∷◌, ◌++◌, length, length-append, refl, sym, ap, subst, ◌∙◌, arith, Option, None, Some}
use Rattle.std.specs.Prelude.{nat_eq, nat_lt, if◌then◌else◌}
use Rattle.std.proofs.lemmas.Bool.{eqb-true}
use Rattle.tag.specs.LogicalTime.{LogicalTime, IsLogicalTime, is_at_most, is_past}
use Rattle.network.specs.Network.{Network}
use Rattle.network.specs.Tables.{Table}
use Rattle.signal.specs.declared.signal.Signal.{Signal}
use Rattle.protocol.specs.Outcome.{Outcome, Refused, Nothing, Done, with_made, IfDone}
use Rattle.protocol.specs.Federate.{Federate}
use Rattle.protocol.specs.FederateRecord.{FederateRecord, after_grant}
use Rattle.protocol.specs.Grant.{Rule}
use Rattle.protocol.specs.Coordinator.{Coordinated, coordinator_takes, grant_to, grants_from, with_grants, coordinator_accepts}
use Rattle.protocol.specs.Machine.{Member, with_member, federate_records_of, sent_to, coordinated, coordinator_takes_from}
use Rattle.protocol_laws.proofs.Safety.{Goes, tag_if, sent-append, grants_sent, rule_grants}
use Rattle.protocol_laws.proofs.Settled.{next_same}
use Rattle.world_progress.specs.Fuel.{rows_of_part, turn_worth}
use Rattle.world_progress.specs.Worth.{worth_up, worth_down, all_worth, untold, ungranted, member_worth, left_of}
use Rattle.world_progress.specs.Runs.{IsSparing}
use Rattle.world_progress.proofs.Sums.{where_so, at_one, sum_at_most, sum_plus, sum_of_one, sum_of_one_at_most}
use Rattle.world_progress.proofs.Queues.{worth-append}
use Rattle.world_progress.proofs.CoordinatorCosts.{grant_costs}
use Rattle.world_progress.proofs.Changes.{Changes, IsChange, change_of}

-- a move after which all can do less by this amount
abbrev pub CostsSo : Network → (cost : ℕ) → (ℕ → Member) → Outcome (ℕ → Member) → Type 0
CostsSo n cost members o = IfDone o (λ after. left_of n after + cost ≤ left_of n members)

-- one member: it may have another record, fewer signals up and more down
member_costs : (n : Network) (i rows : ℕ) (m before : Member) (s : FederateRecord) (o : Option LogicalTime) (sent down : List Signal) (c d : ℕ) → m.federate ≡ before.federate → m.down ≡ before.down → all_worth worth_up m.up + c ≡ all_worth worth_up before.up
    → ungranted s + all_worth worth_down sent ≤ ungranted before.federate_record + d → ((tag : LogicalTime) → o ≡ Some tag → IsTrue (is_past s.granted s.next) × IsTrue (is_at_most s.next tag)) → down ≡ m.down ++ (sent ++ tag_if o)
    → member_worth n i rows (record m { federate_record = after_grant s o; down = down }) + c ≤ member_worth n i rows before + d
member_costs n i rows m before s o sent down c d federate queue up federate_record sparing is =
    let turns : turn_worth n i * (rows - length m.federate.rows) ≡ turn_worth n i * (rows - length before.federate.rows) = ap (λ (f : Federate). turn_worth n i * (rows - length f.rows)) federate in
    let told : untold m.federate ≡ untold before.federate = ap untold federate in
    let grants = grant_costs s o sparing in
    let first = worth-append worth_down m.down (sent ++ tag_if o) in
    let second = worth-append worth_down sent (tag_if o) in
    let whole : all_worth worth_down down ≡ all_worth worth_down (m.down ++ (sent ++ tag_if o)) = ap (all_worth worth_down) is in
    let same : all_worth worth_down m.down ≡ all_worth worth_down before.down = ap (all_worth worth_down) queue in
    omega arith

-- the members, of which one has the rest of its queue
record IsTaken (m before : Member) (c : ℕ) : Type 0 where
  federate : m.federate ≡ before.federate
  down : m.down ≡ before.down
  up : all_worth worth_up m.up + c ≡ all_worth worth_up before.up

taken_here : (members : ℕ → Member) (i : ℕ) (signal : Signal) (rest : List Signal) (j : ℕ) → (members i).up ≡ signal ∷ rest → j ≡ i → IsTaken (record (members i) { up = rest }) (members j) (worth_up signal)
taken_here members i signal rest j e here =
    let P : ℕ → Type 0 = λ x. IsTaken (record (members i) { up = rest }) (members x) (worth_up signal) in
    let whole : all_worth worth_up (members i).up ≡ worth_up signal + all_worth worth_up rest = ap (all_worth worth_up) e in
    subst P (sym here) (record { federate = refl; down = refl; up = omega arith })

taken_if : (members : ℕ → Member) (i : ℕ) (signal : Signal) (rest : List Signal) (j : ℕ) (b : Bool) → (members i).up ≡ signal ∷ rest → (b ≡ true → j ≡ i) → IsTaken (if b then record (members i) { up = rest } else members j) (members j) (where_so b (worth_up signal))
taken_if members i signal rest j true e here = taken_here members i signal rest j e (here refl)
taken_if members i signal rest j false e here = record { federate = refl; down = refl; up = omega arith }

-- to each federate what the signal itself makes, and then its TAG
grants_to : (n : Network) (rule : Rule) (made : Coordinated) (j : ℕ) → sent_to j (with_grants n rule made).sent ≡ sent_to j made.sent ++ tag_if (grant_to n rule made.after j)
grants_to n rule made j = sent-append j made.sent (grants_from n rule made.after 0 n.reactors) ∙ ap (λ (x : List Signal). sent_to j made.sent ++ x) (grants_sent n rule made.after j)

each_costs : (n : Network) (rule : Rule) (members : ℕ → Member) (i : ℕ) (signal : Signal) (rest : List Signal) (made : Coordinated) (more : ℕ → ℕ) → (members i).up ≡ signal ∷ rest → IsSparing rule → ((j : ℕ) → IsLogicalTime (made.after j).next) → Changes (federate_records_of members) made more → (j : ℕ)
    → member_worth n j (rows_of_part n j) (coordinated (with_grants n rule made) j (with_member members i (record (members i) { up = rest }) j)) + at_one i (worth_up signal) j ≤ member_worth n j (rows_of_part n j) (members j) + more j
each_costs n rule members i signal rest made more e sparing tags changes j =
    let W = with_member members i (record (members i) { up = rest }) j in
    let taken = taken_if members i signal rest j (nat_eq j i) e (eqb-true j i) in
    member_costs n j (rows_of_part n j) W (members j) (made.after j) (grant_to n rule made.after j) (sent_to j made.sent) (W.down ++ sent_to j (with_grants n rule made).sent) (at_one i (worth_up signal) j) (more j)
    taken.federate taken.down taken.up (changes j)
    (λ tag is. sparing made.after tags j tag (rule_grants n rule made.after j tag (nat_lt j n.reactors) is))
    (ap (λ (x : List Signal). W.down ++ x) (grants_to n rule made j))

-- so all together
all_cost : (n : Network) (rule : Rule) (members : ℕ → Member) (i : ℕ) (signal : Signal) (rest : List Signal) (made : Coordinated) (t k : ℕ) → i < n.reactors → (members i).up ≡ signal ∷ rest → IsSparing rule → ((j : ℕ) → IsLogicalTime (made.after j).next) → Changes (federate_records_of members) made (at_one t k) → worth_up signal ≡ k + 2
    → left_of n (λ j. coordinated (with_grants n rule made) j (with_member members i (record (members i) { up = rest }) j)) + 2 ≤ left_of n members
all_cost n rule members i signal rest made t k there e sparing tags changes worth =
    let after : ℕ → ℕ = λ j. member_worth n j (rows_of_part n j) (coordinated (with_grants n rule made) j (with_member members i (record (members i) { up = rest }) j)) in
    let before : ℕ → ℕ = λ j. member_worth n j (rows_of_part n j) (members j) in
    let each = sum_at_most n.reactors (λ j. after j + at_one i (worth_up signal) j) (λ j. before j + at_one t k j) (λ j l. each_costs n rule members i signal rest made (at_one t k) e sparing tags changes j) in
    let a = sum_plus n.reactors after (at_one i (worth_up signal)) in
    let b = sum_plus n.reactors before (at_one t k) in
    let c = sum_of_one i (worth_up signal) n.reactors there in
    let d = sum_of_one_at_most t k n.reactors in
    omega arith

by_change : (n : Network) (table : Table) (rule : Rule) (members : ℕ → Member) (i : ℕ) (signal : Signal) (rest : List Signal) (o : Outcome Coordinated) → i < n.reactors → (members i).up ≡ signal ∷ rest → IsSparing rule → IfDone o (IsChange (federate_records_of members) signal)
    → Goes n table (with_made (λ made. λ j. coordinated made j (with_member members i (record (members i) { up = rest }) j)) (with_made (with_grants n rule) o))
    → CostsSo n 2 members (with_made (λ made. λ j. coordinated made j (with_member members i (record (members i) { up = rest }) j)) (with_made (with_grants n rule) o))
by_change n table rule members i signal rest (Refused refusal) there e sparing h g = tt
by_change n table rule members i signal rest Nothing there e sparing h g = tt
by_change n table rule members i signal rest (Done made) there e sparing h g =
    let P : LogicalTime → Type 0 = λ x. IsLogicalTime x in
    all_cost n rule members i signal rest made h.where_at h.most there e sparing
    (λ j. subst P (next_same (made.after j) (grant_to n rule made.after j)) (g.kept j).next_tag) h.changes h.worth

pub coordinator_costs : (n : Network) (table : Table) (rule : Rule) (members : ℕ → Member) (i : ℕ) (up : List Signal) → i < n.reactors → (members i).up ≡ up → IsSparing rule → Goes n table (coordinator_takes_from n rule members i up) → CostsSo n 2 members (coordinator_takes_from n rule members i up)
coordinator_costs n table rule members i [] there e sparing g = tt
coordinator_costs n table rule members i (signal ∷ rest) there e sparing g =
    by_change n table rule members i signal rest (coordinator_takes n (federate_records_of members) i signal) there e sparing (change_of n (federate_records_of members) i signal) g

-- what one step sends to one federate: what the signal itself makes, which is one at most, and a TAG
tag_length : (o : Option LogicalTime) → length (tag_if o) ≤ 1
tag_length None = omega arith
tag_length (Some tag) = omega arith

grants_length : (n : Network) (rule : Rule) (made : Coordinated) (j : ℕ) → length (sent_to j made.sent) ≤ 1 → length (sent_to j (with_grants n rule made).sent) ≤ 2
grants_length n rule made j few =
    let whole : length (sent_to j (with_grants n rule made).sent) ≡ length (sent_to j made.sent ++ tag_if (grant_to n rule made.after j)) = ap length (grants_to n rule made j) in
    let size = length-append (sent_to j made.sent) (tag_if (grant_to n rule made.after j)) in
    let one = tag_length (grant_to n rule made.after j) in
    omega arith

by_grants : (n : Network) (rule : Rule) (federate_records : ℕ → FederateRecord) (signal : Signal) (o : Outcome Coordinated) → IfDone o (IsChange federate_records signal) → IfDone (with_made (with_grants n rule) o) (λ made. (j : ℕ) → length (sent_to j made.sent) ≤ 2)
by_grants n rule federate_records signal (Refused refusal) h = tt
by_grants n rule federate_records signal Nothing h = tt
by_grants n rule federate_records signal (Done made) h = λ j. grants_length n rule made j (h.few j)

pub coordinator_sends : (n : Network) (rule : Rule) (federate_records : ℕ → FederateRecord) (i : ℕ) (signal : Signal) → IfDone (coordinator_accepts n rule federate_records i signal) (λ made. (j : ℕ) → length (sent_to j made.sent) ≤ 2)
coordinator_sends n rule federate_records i signal = by_grants n rule federate_records signal (coordinator_takes n federate_records i signal) (change_of n federate_records i signal)
