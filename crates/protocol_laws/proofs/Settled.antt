-- After each of its steps the coordinator leaves nobody eligible, by a safe rule that leaves no eligible federate without a grant.
use Rattle.std.proofs.Common.{◌≡◌, ℕ, ◌<◌, Bool, true, false, IsTrue, List, [], ◌∷◌, length, refl, sym, ap, subst, ◌∙◌, arith, Option, None, Some}
use Rattle.std.specs.Prelude.{nat_eq, if◌then◌else◌, ◌&&◌, ◌||◌, IsSomeAnd}
use Rattle.std.specs.List.{list_all}
use Rattle.std.proofs.Math.Path.{fun_ext}
use Rattle.std.proofs.lemmas.Bool.Decides.{nat_tests}
use Rattle.std.proofs.lemmas.Bool.{lt-ltb, false_from_ne_true}
use Rattle.tag.specs.LogicalTime.{LogicalTime, IsLogicalTime, is_before, is_at_most, sum_of, is_past}
use Rattle.tag.proofs.Order.{not_before}
use Rattle.network.specs.Network.{Network}
use Rattle.network.specs.Lawful.{IsLawful}
use Rattle.network.specs.Tables.{Table, IsAtMostEveryPath}
use Rattle.signal.specs.declared.signal.Signal.{Signal}
use Rattle.protocol.specs.Outcome.{Outcome, Refused, Nothing, Done, made_or, with_made}
use Rattle.protocol.specs.Federate.{Stepped, federate_accepts, federate_announces, federate_advances}
use Rattle.protocol.specs.FederateRecord.{FederateRecord, after_grant}
use Rattle.protocol.specs.Grant.{Rule, IsSafeRule, after_completed, all_below, is_before_arrival, passes_paths, passes_connection, passes_connections, is_eligible}
use Rattle.protocol.specs.Coordinator.{Coordinated, coordinator_takes, grant_to, with_grants}
use Rattle.protocol.specs.Machine.{Member, Move, ToCoordinator, ToFederate, Announce, Advance, Lose, with_member, federate_records_of, coordinated, coordinator_takes_from, stepped, federate_takes_from, outcome_of, after_moves}
use Rattle.protocol_laws.specs.Runs.{IsFullRule}
use Rattle.protocol_laws.proofs.Safety.{Goes, federate_record_stays, move_goes, moves_sound}

-- nobody is eligible
abbrev pub NobodyIsEligible : Network → Table → (ℕ → FederateRecord) → Type 0
NobodyIsEligible n table federate_records = (j : ℕ) → j < n.reactors → is_eligible n table federate_records j ≡ false

pub next_same : (s : FederateRecord) (o : Option LogicalTime) → (after_grant s o).next ≡ s.next
next_same s None = refl
next_same s (Some g) = refl

completed_same : (s : FederateRecord) (o : Option LogicalTime) → (after_grant s o).completed ≡ s.completed
completed_same s None = refl
completed_same s (Some g) = refl

-- whoever is granted what, the same tags pass
paths_same : (n : Network) (table : Table) (federate_records : ℕ → FederateRecord) (o : ℕ → Option LogicalTime) (j : ℕ) (tag : LogicalTime) → passes_paths n table (λ i. after_grant (federate_records i) (o i)) j tag ≡ passes_paths n table federate_records j tag
paths_same n table federate_records o j tag =
    let each : (λ (i : ℕ). is_before_arrival tag (after_grant (federate_records i) (o i)).next (table i j)) ≡ (λ (i : ℕ). is_before_arrival tag (federate_records i).next (table i j)) =
    fun_ext (λ i. ap (λ x. is_before_arrival tag x (table i j)) (next_same (federate_records i) (o i))) in
    ap (all_below n.reactors) each

connections_same : (n : Network) (federate_records : ℕ → FederateRecord) (o : ℕ → Option LogicalTime) (j : ℕ) (tag : LogicalTime) → passes_connections n (λ i. after_grant (federate_records i) (o i)) j tag ≡ passes_connections n federate_records j tag
connections_same n federate_records o j tag =
    let each : passes_connection (λ i. after_grant (federate_records i) (o i)) j tag ≡ passes_connection federate_records j tag =
    fun_ext (λ c. ap (λ x. if nat_eq c.target j then is_before tag (sum_of (after_completed x) c.delay) else true) (completed_same (federate_records c.source) (o c.source))) in
    ap (λ test. list_all test n.connections) each

-- the parts of the test, for one record
abbrev pub eligible_so : Network → FederateRecord → (LogicalTime → Bool) → Bool
eligible_so n s passes = s.announced && is_past s.granted s.next && is_at_most s.next n.stop && passes s.next

second_false : (a b c d : Bool) → b ≡ false → (a && b && c && d) ≡ false
second_false true true c d h = cc
second_false true false c d h = refl
second_false false b c d h = refl

-- what isn't granted at one tag isn't before a later one that is granted
past_falls : (granted : Option LogicalTime) (g tag : LogicalTime) → is_past granted g ≡ true → is_past granted tag ≡ false → is_before g tag ≡ false
past_falls None g tag p q = cc
past_falls (Some k) g tag p q = grind (arith, nat_tests)

-- the second test fails, either for the whole or for what it was before
second_falls : (a b c d e : Bool) → ((a && b && c && d) ≡ true → e ≡ false) → (b ≡ false → e ≡ false) → (a && e && c && d) ≡ false
second_falls a b c d false h k = second_false a false c d refl
second_falls a false c d true h k = let clash : true ≡ false = k refl in cc
second_falls a true c d true h k = false_from_ne_true (a && true && c && d) (λ t. let clash : true ≡ false = h t in cc)

-- a federate isn't eligible after its grant; and whoever was eligible has one
federate_record_settled : (n : Network) (s : FederateRecord) (passes : LogicalTime → Bool) (here : Option LogicalTime) → ((tag : LogicalTime) → here ≡ Some tag → is_past s.granted tag ≡ true) → (eligible_so n s passes ≡ true → IsSomeAnd here (λ tag. IsTrue (is_at_most s.next tag))) → eligible_so n (after_grant s here) passes ≡ false
federate_record_settled n s passes None later full = false_from_ne_true (eligible_so n s passes) full
federate_record_settled n s passes (Some g) later full =
    second_falls s.announced (is_past s.granted s.next) (is_at_most s.next n.stop) (passes s.next) (is_before g s.next)
    (λ t. not_before g s.next (full t)) (past_falls s.granted g s.next (later g refl))

settled_if : (n : Network) (table : Table) (federate_records : ℕ → FederateRecord) (o : ℕ → Option LogicalTime) (j : ℕ) (here : Option LogicalTime) → o j ≡ here → ((tag : LogicalTime) → here ≡ Some tag → is_past (federate_records j).granted tag ≡ true) → (is_eligible n table federate_records j ≡ true → IsSomeAnd here (λ tag. IsTrue (is_at_most (federate_records j).next tag))) → is_eligible n table (λ i. after_grant (federate_records i) (o i)) j ≡ false
settled_if n table federate_records o j here e later full =
    let passes : (λ (tag : LogicalTime). passes_paths n table (λ i. after_grant (federate_records i) (o i)) j tag || passes_connections n (λ i. after_grant (federate_records i) (o i)) j tag) ≡ (λ (tag : LogicalTime). passes_paths n table federate_records j tag || passes_connections n federate_records j tag) =
    fun_ext (λ tag.
    ap (λ x. x || passes_connections n (λ i. after_grant (federate_records i) (o i)) j tag) (paths_same n table federate_records o j tag) ∙
    ap (λ x. passes_paths n table federate_records j tag || x) (connections_same n federate_records o j tag)) in
    ap (λ x. eligible_so n (after_grant (federate_records j) x) (λ tag. passes_paths n table (λ i. after_grant (federate_records i) (o i)) j tag || passes_connections n (λ i. after_grant (federate_records i) (o i)) j tag)) e ∙
    ap (λ x. eligible_so n (after_grant (federate_records j) here) x) passes ∙
    federate_record_settled n (federate_records j) (λ tag. passes_paths n table federate_records j tag || passes_connections n federate_records j tag) here later full

pub settled_by_grants : (n : Network) (table : Table) (rule : Rule) (federate_records : ℕ → FederateRecord) → IsSafeRule n table rule → IsFullRule n table rule → ((i : ℕ) → IsLogicalTime (federate_records i).next) → NobodyIsEligible n table (λ i. after_grant (federate_records i) (grant_to n rule federate_records i))
settled_by_grants n table rule federate_records safe full tags j l =
    settled_if n table federate_records (grant_to n rule federate_records) j (rule federate_records j)
    (ap (λ b. if b then rule federate_records j else None) (lt-ltb j n.reactors l)) (λ tag e. (safe federate_records tags j tag e).later) (full federate_records tags j)

-- a move leaves nobody eligible
abbrev pub Settles : Network → Table → Outcome (ℕ → Member) → Type 0
Settles n table (Refused refusal) = Unit {0}
Settles n table Nothing = Unit {0}
Settles n table (Done members) = NobodyIsEligible n table (federate_records_of members)

member_settles : (n : Network) (table : Table) (members : ℕ → Member) (i : ℕ) (m : Member) → m.federate_record ≡ (members i).federate_record → NobodyIsEligible n table (federate_records_of members) → NobodyIsEligible n table (federate_records_of (with_member members i m))
member_settles n table members i m e s =
    let same : federate_records_of (with_member members i m) ≡ federate_records_of members = fun_ext (λ x. federate_record_stays members i m x e) in
    let P : (ℕ → FederateRecord) → Type 0 = λ x. NobodyIsEligible n table x in
    subst P (sym same) s

step_settles : (n : Network) (table : Table) (members : ℕ → Member) (i : ℕ) (rest : List Signal) (o : Outcome Stepped) (b : Bool) → NobodyIsEligible n table (federate_records_of members) → Settles n table (if b then Nothing else with_made (with_member members i) (with_made (stepped (members i) rest) o))
step_settles n table members i rest o true s = tt
step_settles n table members i rest (Refused refusal) false s = tt
step_settles n table members i rest Nothing false s = tt
step_settles n table members i rest (Done made) false s = member_settles n table members i (stepped (members i) rest made) refl s

take_settles : (n : Network) (table : Table) (members : ℕ → Member) (i : ℕ) (down : List Signal) (b : Bool) → NobodyIsEligible n table (federate_records_of members) → Settles n table (if b then Nothing else with_made (with_member members i) (federate_takes_from n i (members i) down))
take_settles n table members i [] true s = tt
take_settles n table members i [] false s = tt
take_settles n table members i (signal ∷ rest) b s = step_settles n table members i rest (federate_accepts n i (members i).federate signal) b s

grants_settle : (n : Network) (table : Table) (rule : Rule) (members : ℕ → Member) (o : Outcome Coordinated) → IsSafeRule n table rule → IsFullRule n table rule → Goes n table (with_made (λ made. λ j. coordinated made j (members j)) (with_made (with_grants n rule) o)) → Settles n table (with_made (λ made. λ j. coordinated made j (members j)) (with_made (with_grants n rule) o))
grants_settle n table rule members (Refused refusal) safe full g = tt
grants_settle n table rule members Nothing safe full g = tt
grants_settle n table rule members (Done made) safe full g =
    let P : LogicalTime → Type 0 = λ x. IsLogicalTime x in
    settled_by_grants n table rule made.after safe full (λ i. subst P (next_same (made.after i) (grant_to n rule made.after i)) (g.kept i).next_tag)

coordinator_settles : (n : Network) (table : Table) (rule : Rule) (members : ℕ → Member) (i : ℕ) (up : List Signal) → IsSafeRule n table rule → IsFullRule n table rule → Goes n table (coordinator_takes_from n rule members i up) → Settles n table (coordinator_takes_from n rule members i up)
coordinator_settles n table rule members i [] safe full g = tt
coordinator_settles n table rule members i (signal ∷ rest) safe full g =
    grants_settle n table rule (with_member members i (record (members i) { up = rest })) (coordinator_takes n (federate_records_of members) i signal) safe full g

move_settles : (n : Network) (table : Table) (rule : Rule) (members : ℕ → Member) (move : Move) → IsSafeRule n table rule → IsFullRule n table rule → Goes n table (outcome_of n rule members move) → NobodyIsEligible n table (federate_records_of members) → Settles n table (outcome_of n rule members move)
move_settles n table rule members (ToCoordinator i) safe full g s = coordinator_settles n table rule members i (members i).up safe full g
move_settles n table rule members (ToFederate i) safe full g s = take_settles n table members i (members i).down (members i).lost s
move_settles n table rule members (Announce i) safe full g s = step_settles n table members i (members i).down (federate_announces (members i).federate) (members i).lost s
move_settles n table rule members (Advance i) safe full g s = step_settles n table members i (members i).down (federate_advances n i (members i).federate) (members i).lost s
move_settles n table rule members (Lose i) safe full g s = member_settles n table members i (record (members i) { lost = true }) refl s

made_settles : (n : Network) (table : Table) (members : ℕ → Member) (o : Outcome (ℕ → Member)) → NobodyIsEligible n table (federate_records_of members) → Settles n table o → NobodyIsEligible n table (federate_records_of (made_or members o))
made_settles n table members (Refused refusal) s m = s
made_settles n table members Nothing s m = s
made_settles n table members (Done after) s m = m

-- after every list of moves nobody is eligible
pub moves_settle : (n : Network) (table : Table) (rules : ℕ → Rule) (moves : List Move) → IsLawful n → IsAtMostEveryPath n table → ((k : ℕ) → IsSafeRule n table (rules k)) → ((k : ℕ) → IsFullRule n table (rules k)) → NobodyIsEligible n table (federate_records_of (after_moves n rules moves))
moves_settle n table rules [] lawful facts safe full = λ j l. refl
moves_settle n table rules (move ∷ earlier) lawful facts safe full =
    let before = moves_sound n table rules earlier lawful facts safe in
    let goes = move_goes n table (rules (length earlier)) (after_moves n rules earlier) move lawful facts (safe (length earlier)) before in
    let was = moves_settle n table rules earlier lawful facts safe full in
    made_settles n table (after_moves n rules earlier) (outcome_of n (rules (length earlier)) (after_moves n rules earlier) move) was
    (move_settles n table (rules (length earlier)) (after_moves n rules earlier) move (safe (length earlier)) (full (length earlier)) goes was)
