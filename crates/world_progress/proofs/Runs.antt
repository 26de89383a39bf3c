-- So only a bounded number of a run's moves do anything, and only a bounded number of signals are sent in it.
use Rattle.std.proofs.Common.{◌≡◌, ℕ, ◌+◌, ◌*◌, ◌-◌, ◌≤◌, List, [], ◌∷◌, length, refl, ap, arith}
use Rattle.network.specs.Network.{Network}
use Rattle.network.specs.Lawful.{IsLawful}
use Rattle.network.specs.Tables.{Table, IsAtMostEveryPath}
use Rattle.protocol.specs.Outcome.{Outcome, Refused, Nothing, Done, made_or}
use Rattle.protocol.specs.Grant.{Rule, IsSafeRule}
use Rattle.protocol.specs.Machine.{Member, Move, initial_member, after_moves}
use Rattle.world_progress.specs.Fuel.{rows_of_part, turn_worth, fuel_of}
use Rattle.world_progress.specs.Worth.{worth_up, worth_down, all_worth, untold, ungranted, member_worth, left_of}
use Rattle.world_progress.specs.Runs.{IsSparing, AreOfMembers, takes, is_done, outcome_after, count_done, count_taken, count_waiting}
use Rattle.world_progress.proofs.Sums.{where_so, sum_at_most, sum_same, sum_plus, sum_of_each}
use Rattle.world_progress.proofs.Queues.{length_up, length_down}
use Rattle.world_progress.proofs.CoordinatorMoves.{CostsSo}
use Rattle.world_progress.proofs.Moves.{move_costs}

-- at first
first_numbers : (w rows none : ℕ) → none ≡ 0 → w * (rows - none) + (5 + (2 + (0 + 0))) ≡ w * rows + 7
first_numbers w rows none e =
    let all : rows - none ≡ rows = omega arith in
    let whole : w * (rows - none) ≡ w * rows = ap (λ (x : ℕ). w * x) all in
    omega arith

pub initial_left : (n : Network) → left_of n (initial_member n) ≡ fuel_of n
initial_left n =
    let each = sum_same n.reactors (λ j. member_worth n j (rows_of_part n j) (initial_member n j)) (λ j. turn_worth n j * rows_of_part n j + 7)
    (λ j l. first_numbers (turn_worth n j) (rows_of_part n j) (length (initial_member n j).federate.rows) refl) in
    let split = sum_plus n.reactors (λ j. turn_worth n j * rows_of_part n j) (λ j. 7) in
    let sevens = sum_of_each 7 n.reactors in
    omega arith

-- after these moves, what was done, what was taken and what is left are no more
pub made_costs : (n : Network) (taken : ℕ) (members : ℕ → Member) (o : Outcome (ℕ → Member)) → CostsSo n (1 + taken) members o → where_so (is_done o) 1 + (where_so (is_done o) taken + left_of n (made_or members o)) ≤ left_of n members
made_costs n taken members (Refused refusal) h = omega arith
made_costs n taken members Nothing h = omega arith
made_costs n taken members (Done after) h = omega arith

pub spent : (n : Network) (table : Table) (rules : ℕ → Rule) → IsLawful n → IsAtMostEveryPath n table → ((k : ℕ) → IsSafeRule n table (rules k)) → ((k : ℕ) → IsSparing (rules k)) → (moves : List Move) → AreOfMembers n moves
    → count_done n rules moves + (count_taken n rules moves + left_of n (after_moves n rules moves)) ≤ fuel_of n
spent n table rules lawful facts safe sparing [] there = let first = initial_left n in omega arith
spent n table rules lawful facts safe sparing (move ∷ earlier) there =
    let before = spent n table rules lawful facts safe sparing earlier there.1 in
    let cost = move_costs n table rules lawful facts safe sparing earlier move there.0 in
    let now = made_costs n (takes move) (after_moves n rules earlier) (outcome_after n rules earlier move) cost in
    omega arith

pub few_moves : (n : Network) (table : Table) (rules : ℕ → Rule) → IsLawful n → IsAtMostEveryPath n table → ((k : ℕ) → IsSafeRule n table (rules k)) → ((k : ℕ) → IsSparing (rules k)) → (moves : List Move) → AreOfMembers n moves → count_done n rules moves ≤ fuel_of n
few_moves n table rules lawful facts safe sparing moves there = let all = spent n table rules lawful facts safe sparing moves there in omega arith

-- what waits is no more than what is left
queues_at_most : (w turns told grants up down a b : ℕ) → a ≤ up → b ≤ down → a + b ≤ w * turns + (told + (grants + (up + down)))
queues_at_most w turns told grants up down a b h k = omega arith

pub waiting_at_most : (n : Network) (members : ℕ → Member) → count_waiting n members ≤ left_of n members
waiting_at_most n members =
    sum_at_most n.reactors (λ j. length (members j).up + length (members j).down) (λ j. member_worth n j (rows_of_part n j) (members j))
    (λ j l. (
    let m = members j in
    queues_at_most (turn_worth n j) (rows_of_part n j - length m.federate.rows) (untold m.federate) (ungranted m.federate_record) (all_worth worth_up m.up) (all_worth worth_down m.down) (length m.up) (length m.down)
    (length_up m.up) (length_down m.down)))

pub few_signals : (n : Network) (table : Table) (rules : ℕ → Rule) → IsLawful n → IsAtMostEveryPath n table → ((k : ℕ) → IsSafeRule n table (rules k)) → ((k : ℕ) → IsSparing (rules k)) → (moves : List Move) → AreOfMembers n moves
    → count_taken n rules moves + count_waiting n (after_moves n rules moves) ≤ fuel_of n
few_signals n table rules lawful facts safe sparing moves there =
    let all = spent n table rules lawful facts safe sparing moves there in
    let waiting = waiting_at_most n (after_moves n rules moves) in
    omega arith
