-- Each move that does something takes 1 from what all can still do, and 1 more where it takes a signal.
use Rattle.std.proofs.Common.{◌≡◌, ℕ, ◌+◌, ◌*◌, ◌<◌, ◌≤◌, Bool, true, false, List, [], ◌∷◌, ◌++◌, length, length-append, refl, sym, ap, subst, ◌∙◌, arith}
use Rattle.std.specs.Prelude.{nat_eq, if◌then◌else◌}
use Rattle.std.proofs.lemmas.Bool.{eqb-true, eq-eqb}
use Rattle.tag.specs.LogicalTime.{place}
use Rattle.network.specs.Network.{Network}
use Rattle.network.specs.Lawful.{IsLawful}
use Rattle.network.specs.Tables.{Table, IsAtMostEveryPath}
use Rattle.network.specs.Undivided.{Row, whole, part}
use Rattle.signal.specs.declared.signal.Signal.{Signal}
use Rattle.protocol.specs.Outcome.{Outcome, Refused, Nothing, Done, made_or, with_made}
use Rattle.protocol.specs.Federate.{Stepped, federate_accepts, federate_announces, federate_advances}
use Rattle.protocol.specs.Grant.{Rule, IsSafeRule}
use Rattle.protocol.specs.Machine.{Member, Move, ToCoordinator, ToFederate, Announce, Advance, Lose, with_member, stepped, federate_takes_from, outcome_of, after_moves}
use Rattle.protocol_laws.specs.Rows.{rows_of_run}
use Rattle.protocol_laws.proofs.Safety.{move_goes, moves_sound}
use Rattle.protocol_laws.proofs.Computes.{rows_begin}
use Rattle.world_progress.specs.Fuel.{enough_turns, rows_of_part}
use Rattle.world_progress.specs.Worth.{member_worth, left_of}
use Rattle.world_progress.specs.Runs.{IsSparing, IsOfMember, takes, outcome_after}
use Rattle.world_progress.proofs.Sums.{where_so, at_one, sum_at_most, sum_plus, sum_of_one}
use Rattle.world_progress.proofs.FederateCosts.{Costs, announce_costs, take_costs, advance_costs}
use Rattle.world_progress.proofs.CoordinatorMoves.{CostsSo, coordinator_costs}

-- one member is replaced
replaced_if : (n : Network) (j rows cost : ℕ) (mine other : Member) (b : Bool) → (b ≡ true → member_worth n j rows mine + cost ≤ member_worth n j rows other) → member_worth n j rows (if b then mine else other) + where_so b cost ≤ member_worth n j rows other
replaced_if n j rows cost mine other true h = h refl
replaced_if n j rows cost mine other false h = omega arith

replaced_costs : (n : Network) (cost : ℕ) (members : ℕ → Member) (i : ℕ) (m : Member) → i < n.reactors → member_worth n i (rows_of_part n i) m + cost ≤ member_worth n i (rows_of_part n i) (members i) → left_of n (with_member members i m) + cost ≤ left_of n members
replaced_costs n cost members i m there h =
    let after : ℕ → ℕ = λ j. member_worth n j (rows_of_part n j) (with_member members i m j) in
    let P : ℕ → Type 0 = λ x. member_worth n x (rows_of_part n x) m + cost ≤ member_worth n x (rows_of_part n x) (members x) in
    let each = sum_at_most n.reactors (λ j. after j + at_one i cost j) (λ j. member_worth n j (rows_of_part n j) (members j))
    (λ j l. replaced_if n j (rows_of_part n j) cost m (members j) (nat_eq j i) (λ e. subst P (sym (eqb-true j i e)) h)) in
    let a = sum_plus n.reactors after (at_one i cost) in
    let b = sum_of_one i cost n.reactors there in
    omega arith

step_costs : (n : Network) (cost : ℕ) (members : ℕ → Member) (i : ℕ) (rest : List Signal) (o : Outcome Stepped) (b : Bool) → i < n.reactors → (b ≡ false → Costs n i (rows_of_part n i) cost (members i) rest o) → CostsSo n cost members (if b then Nothing else with_made (with_member members i) (with_made (stepped (members i) rest) o))
step_costs n cost members i rest o true there h = tt
step_costs n cost members i rest (Refused refusal) false there h = tt
step_costs n cost members i rest Nothing false there h = tt
step_costs n cost members i rest (Done made) false there h = replaced_costs n cost members i (stepped (members i) rest made) there (h refl)

takes_costs : (n : Network) (members : ℕ → Member) (i : ℕ) (down : List Signal) (b : Bool) → i < n.reactors → (members i).down ≡ down → CostsSo n 2 members (if b then Nothing else with_made (with_member members i) (federate_takes_from n i (members i) down))
takes_costs n members i [] true there e = tt
takes_costs n members i [] false there e = tt
takes_costs n members i (signal ∷ rest) b there e =
    step_costs n 2 members i rest (federate_accepts n i (members i).federate signal) b there (λ kept. take_costs n i (rows_of_part n i) (members i) signal rest e)

-- after an advance a federate has no more rows than its part
own_is : {A : Type 0} (values : ℕ → A) (i : ℕ) (mine : A) → (if nat_eq i i then mine else values i) ≡ mine
own_is values i mine = ap (λ (b : Bool). if b then mine else values i) (eq-eqb i i refl)

rows_after : (n : Network) (rules : ℕ → Rule) (moves : List Move) (i : ℕ) (made : Stepped) → (after_moves n rules moves i).lost ≡ false → federate_advances n i (after_moves n rules moves i).federate ≡ Done made → rows_of_run n rules (Advance i ∷ moves) i ≡ made.after.rows
rows_after n rules moves i made kept is =
    let M = after_moves n rules moves in
    let first : outcome_of n (rules (length moves)) M (Advance i) ≡ with_made (with_member M i) (with_made (stepped (M i) (M i).down) (federate_advances n i (M i).federate)) =
    ap (λ (b : Bool). if b then Nothing else with_made (with_member M i) (with_made (stepped (M i) (M i).down) (federate_advances n i (M i).federate))) kept in
    let second : outcome_of n (rules (length moves)) M (Advance i) ≡ Done (with_member M i (stepped (M i) (M i).down made)) =
    first ∙ ap (λ (o : Outcome Stepped). with_made (with_member M i) (with_made (stepped (M i) (M i).down) o)) is in
    ap (λ (o : Outcome (ℕ → Member)). (made_or M o i).federate.rows) second ∙ ap (λ (m : Member). m.federate.rows) (own_is M i (stepped (M i) (M i).down made))

few_rows : (all rows : List Row) (rest : List Row) → all ≡ rows ++ rest → length rows ≤ length all
few_rows all rows rest e =
    let size = length-append rows rest in
    let same : length all ≡ length (rows ++ rest) = ap length e in
    omega arith

rows_within : (n : Network) (table : Table) (rules : ℕ → Rule) (moves : List Move) (i : ℕ) (made : Stepped) → IsLawful n → IsAtMostEveryPath n table → ((k : ℕ) → IsSafeRule n table (rules k)) → i < n.reactors → (after_moves n rules moves i).lost ≡ false → federate_advances n i (after_moves n rules moves i).federate ≡ Done made → length made.after.rows ≤ rows_of_part n i
rows_within n table rules moves i made lawful facts safe there kept is =
    let enough : place n.stop * 64 + 64 ≤ enough_turns n = omega arith in
    let begins = rows_begin n table rules lawful facts safe (Advance i ∷ moves) i there (enough_turns n) enough in
    let P : List Row → Type 0 = λ x. length x ≤ rows_of_part n i in
    subst P (rows_after n rules moves i made kept is) (few_rows (part i (whole n (enough_turns n))) (rows_of_run n rules (Advance i ∷ moves) i) begins.0 begins.1)

-- each move
pub move_costs : (n : Network) (table : Table) (rules : ℕ → Rule) → IsLawful n → IsAtMostEveryPath n table → ((k : ℕ) → IsSafeRule n table (rules k)) → ((k : ℕ) → IsSparing (rules k)) → (moves : List Move) (move : Move) → IsOfMember n move
    → CostsSo n (1 + takes move) (after_moves n rules moves) (outcome_after n rules moves move)
move_costs n table rules lawful facts safe sparing moves (ToCoordinator i) there =
    let M = after_moves n rules moves in
    let goes = move_goes n table (rules (length moves)) M (ToCoordinator i) lawful facts (safe (length moves)) (moves_sound n table rules moves lawful facts safe) in
    coordinator_costs n table (rules (length moves)) M i (M i).up there refl (sparing (length moves)) goes
move_costs n table rules lawful facts safe sparing moves (ToFederate i) there =
    let M = after_moves n rules moves in
    takes_costs n M i (M i).down (M i).lost there refl
move_costs n table rules lawful facts safe sparing moves (Announce i) there =
    let M = after_moves n rules moves in
    step_costs n 1 M i (M i).down (federate_announces (M i).federate) (M i).lost there (λ kept. announce_costs n i (rows_of_part n i) (M i))
move_costs n table rules lawful facts safe sparing moves (Advance i) there =
    let M = after_moves n rules moves in
    step_costs n 1 M i (M i).down (federate_advances n i (M i).federate) (M i).lost there
    (λ kept. advance_costs n i (rows_of_part n i) (M i) (λ made is. rows_within n table rules moves i made lawful facts safe there kept is))
move_costs n table rules lawful facts safe sparing moves (Lose i) there = absurd there
