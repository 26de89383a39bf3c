-- The lines of a block do what the block says.
use Rattle.std.proofs.Common.{◌≡◌, ℕ, ◌+◌, ◌<◌, ◌≤◌, ℤ, pos, true, false, cond, lit<, List, [], ◌∷◌, ◌++◌, length, Option, Some, refl, sym, ap, ◌∙◌, subst, arith}
use Rattle.std.specs.Prelude.{slice_get, FitsSigned}
use Rattle.std.specs.Int.{w64}
use Rattle.network.specs.Network.{Effect}
use Rattle.reactor_program.specs.declared.program.Operand.TheVariants.{State}
use Rattle.reactor_program.specs.declared.program.Line.{Line}
use Rattle.reactor.specs.Effect.{truth_value, operand_value}
use Rattle.expand_expressions.specs.Meaning.{is_true, value_of, AreWithin}
use Rattle.expand_expressions.specs.Working.{kept, worked_out}
use Rattle.expand_expressions.specs.Laws.{AssignBelow, KeepsBelow, after_lines}
use Rattle.expand_expressions.proofs.Keeping.{get_set_same, keeps_refl, keeps_trans, assign_front, assign_back, after_both}
use Rattle.expand_expressions.proofs.DividedStates.{state_read}
use Rattle.expand_expressions.proofs.Parts.{GivesIn}
use Rattle.expand_expressions.specs.Division.{assigned}
use Rattle.expand_expressions.proofs.FormulaLines.{value_fits}
use Rattle.expand_bodies.specs.declared.block.Block.{Block}
use Rattle.expand_bodies.specs.declared.block.Block.TheVariants.{End, Do', When', Let', If', IfElse'}
use Rattle.expand_bodies.specs.Body.{with_value, after_deed, after_block, IsProper}
use Rattle.expand_bodies.specs.Lines.{deed_lines, guard_of, asked, branched, stored_lines, turned_guard, block_lines}
use Rattle.expand_bodies.proofs.Assigned.{assign_keeps, lines_count, worked_from}
use Rattle.expand_bodies.proofs.Related.{keeps_lower, keeps_both, related_both, next_by_value, chosen_keeps, deed_within, value_within, chosen_within, deed_between, chosen_between, set_below}
use Rattle.expand_bodies.proofs.Deeds.{formula_at, deed_done, deed_skipped, IsRunning, branched_runs, asked_runs, stored_room, stored_related, stored_is, stored_from, branched_from, guard_skips, guard_turned, around_is, running_kept, running_next, guard_below, guard_met, deed_front, room_at}

one_fits : FitsSigned w64 (pos 1)
one_fits = record { sfits = lit< tt }

-- all that a block leaves has 64 bits
block_within : (block : Block) (present : ℕ → Option ℤ) (own free : ℕ) (e : Effect) → IsProper own free block → AreWithin e.states present → AreWithin (after_block free present e block).states present
block_within End present own free e proper all = all
block_within (Do' place target f p rest) present own free e proper all =
    block_within rest present own free (after_deed e target (value_of e.states present f)) proper.2
    (deed_within present e target (value_of e.states present f) all (value_fits f e.states present all proper.1.1))
block_within (When' place c target f p rest) present own free e proper all =
    let b = is_true (value_of e.states present c) in
    let done = after_deed e target (value_of e.states present f) in
    block_within rest present own free (cond b done e) proper.3
    (chosen_within b present done e (deed_within present e target (value_of e.states present f) all (value_fits f e.states present all proper.2.1)) all)
block_within (Let' place f p rest) present own free e proper all =
    let v = value_of e.states present f in
    block_within rest present own (free + 1) (with_value e free v) proper.1 (value_within present e free v all (value_fits f e.states present all proper.0.1))
block_within (If' place c p then_block q rest) present own free e proper all =
    let b = is_true (value_of e.states present c) in
    let branch = with_value e free (pos 1) in
    let branch_within : AreWithin branch.states present = value_within present e free (pos 1) all one_fits in
    let done = after_block (free + 1) present branch then_block in
    block_within rest present own free (cond b done e) proper.2
    (chosen_within b present done e (block_within then_block present own (free + 1) branch proper.1 branch_within) all)
block_within (IfElse' place c p then_block q else_block r rest) present own free e proper all =
    let b = is_true (value_of e.states present c) in
    let branch = with_value e free (pos 1) in
    let branch_within : AreWithin branch.states present = value_within present e free (pos 1) all one_fits in
    let done = after_block (free + 1) present branch then_block in
    let other = after_block (free + 1) present branch else_block in
    block_within rest present own free (cond b done other) proper.3
    (chosen_within b present done other (block_within then_block present own (free + 1) branch proper.1 branch_within) (block_within else_block present own (free + 1) branch proper.2 branch_within))

-- neither the states of names and branches around it are changed
block_between : (block : Block) (present : ℕ → Option ℤ) (own free k : ℕ) (e : Effect) → IsProper own free block → own ≤ k → k < free →
    slice_get (after_block free present e block).states k ≡ slice_get e.states k
block_between End present own free k e proper from below = refl
block_between (Do' place target f p rest) present own free k e proper from below =
    block_between rest present own free k (after_deed e target (value_of e.states present f)) proper.2 from below
    ∙ deed_between target own k e (value_of e.states present f) proper.0 from
block_between (When' place c target f p rest) present own free k e proper from below =
    let b = is_true (value_of e.states present c) in
    let done = after_deed e target (value_of e.states present f) in
    block_between rest present own free k (cond b done e) proper.3 from below
    ∙ chosen_between b k e done e (deed_between target own k e (value_of e.states present f) proper.1 from) refl
block_between (Let' place f p rest) present own free k e proper from below =
    let v = value_of e.states present f in
    block_between rest present own (free + 1) k (with_value e free v) proper.1 from (omega arith) ∙ set_below e free k v below
block_between (If' place c p then_block q rest) present own free k e proper from below =
    let b = is_true (value_of e.states present c) in
    let branch = with_value e free (pos 1) in
    let done = after_block (free + 1) present branch then_block in
    block_between rest present own free k (cond b done e) proper.2 from below
    ∙ chosen_between b k e done e (block_between then_block present own (free + 1) k branch proper.1 from (omega arith) ∙ set_below e free k (pos 1) below) refl
block_between (IfElse' place c p then_block q else_block r rest) present own free k e proper from below =
    let b = is_true (value_of e.states present c) in
    let branch = with_value e free (pos 1) in
    let done = after_block (free + 1) present branch then_block in
    let other = after_block (free + 1) present branch else_block in
    block_between rest present own free k (cond b done other) proper.3 from below
    ∙ chosen_between b k e done other (block_between then_block present own (free + 1) k branch proper.1 from (omega arith) ∙ set_below e free k (pos 1) below)
    (block_between else_block present own (free + 1) k branch proper.2 from (omega arith) ∙ set_below e free k (pos 1) below)

-- as many states as before, so there is room for what comes behind
room_behind : (present : ℕ → Option ℤ) (n : ℕ) (e : Effect) (xs ys : List Line) → length e.states ≡ n → AssignBelow n (xs ++ ys) →
    (length (after_lines present e xs).states ≡ n) × AssignBelow n ys
room_behind present n e xs ys count room = (lines_count present xs e ∙ count, assign_back n xs ys room)

-- in a branch that doesn't run none but free states change
block_skips : (block : Block) (present : ℕ → Option ℤ) (free guard n : ℕ) (e : Effect) → guard < free → length e.states ≡ n → AssignBelow n (block_lines free (Some guard) block) →
    slice_get e.states guard ≡ Some (pos 0) → KeepsBelow free e (after_lines present e (block_lines free (Some guard) block))
block_skips End present free guard n e below count room is = keeps_refl free e
block_skips (Do' place target f p rest) present free guard n e below count room is =
    let xs = deed_lines free (Some (State guard)) target (worked_out free f) in
    let ys = block_lines free (Some guard) rest in
    let met : is_true (operand_value e.states present (State guard)) ≡ false = ap is_true (state_read present e guard (pos 0) is) in
    let first = deed_skipped present free e (Some (State guard)) target (worked_out free f) (worked_from f free) below met in
    let behind = room_behind present n e xs ys count room in
    keeps_both present free e e xs ys first (block_skips rest present free guard n (after_lines present e xs) below behind.0 behind.1 (first.states guard below ∙ is))
block_skips (When' place c target f p rest) present free guard n e below count room is =
    let w = branched free (Some guard) c in
    let next = free + 1 in
    let asks = stored_lines free w in
    let deed = deed_lines next (Some (State free)) target (worked_out next f) in
    let xs = asks ++ deed in
    let ys = block_lines free (Some guard) rest in
    let front = assign_front n xs ys room in
    let here : free < n = stored_room n free w (assign_front n asks deed front) in
    let there : free < length e.states = omega (arith, count, here) in
    let second = after_lines present e asks in
    let zero = guard_skips present free guard e c below is there in
    let met : is_true (operand_value second.states present (State free)) ≡ false = ap is_true (state_read present second free (pos 0) zero) in
    let low : free < next = omega arith in
    let above : free ≤ next = omega arith in
    let asks_keep = assign_keeps present free asks e (stored_from free w (branched_from free (Some guard) c)) in
    let deed_keeps = keeps_lower free next second (after_lines present second deed) above (deed_skipped present next second (Some (State free)) target (worked_out next f) (worked_from f next) low met) in
    let first = keeps_both present free e e asks deed asks_keep deed_keeps in
    let behind = room_behind present n e xs ys count room in
    keeps_both present free e e xs ys first (block_skips rest present free guard n (after_lines present e xs) below behind.0 behind.1 (first.states guard below ∙ is))
block_skips (Let' place f p rest) present free guard n e below count room is =
    let xs = stored_lines free (worked_out free f) in
    let ys = block_lines (free + 1) (Some guard) rest in
    let first = assign_keeps present free xs e (stored_from free (worked_out free f) (worked_from f free)) in
    let behind = room_behind present n e xs ys count room in
    let mid = after_lines present e xs in
    let above : free ≤ free + 1 = omega arith in
    let inside : guard < free + 1 = omega arith in
    keeps_both present free e e xs ys first
    (keeps_lower free (free + 1) mid (after_lines present mid ys) above (block_skips rest present (free + 1) guard n mid inside behind.0 behind.1 (first.states guard below ∙ is)))
block_skips (If' place c p then_block q rest) present free guard n e below count room is =
    let w = branched free (Some guard) c in
    let asks = stored_lines free w in
    let branch = block_lines (free + 1) (Some free) then_block in
    let xs = asks ++ branch in
    let ys = block_lines free (Some guard) rest in
    let front = assign_front n xs ys room in
    let here : free < n = stored_room n free w (assign_front n asks branch front) in
    let there : free < length e.states = omega (arith, count, here) in
    let second = after_lines present e asks in
    let zero = guard_skips present free guard e c below is there in
    let inner = room_behind present n e asks branch count front in
    let inside : free < free + 1 = omega arith in
    let above : free ≤ free + 1 = omega arith in
    let asks_keep = assign_keeps present free asks e (stored_from free w (branched_from free (Some guard) c)) in
    let skips = keeps_lower free (free + 1) second (after_lines present second branch) above (block_skips then_block present (free + 1) free n second inside inner.0 inner.1 zero) in
    let first = keeps_both present free e e asks branch asks_keep skips in
    let behind = room_behind present n e xs ys count room in
    keeps_both present free e e xs ys first (block_skips rest present free guard n (after_lines present e xs) below behind.0 behind.1 (first.states guard below ∙ is))
block_skips (IfElse' place c p then_block q else_block r rest) present free guard n e below count room is =
    let w = branched free (Some guard) c in
    let asks = stored_lines free w in
    let branch = block_lines (free + 1) (Some free) then_block in
    let other = block_lines (free + 1) (Some free) else_block in
    let turn = turned_guard free (Some guard) in
    let xs = asks ++ branch in
    let zs = turn ∷ other in
    let ys = block_lines free (Some guard) rest in
    let front = assign_front n (xs ++ zs) ys room in
    let front_first = assign_front n xs zs front in
    let here : free < n = stored_room n free w (assign_front n asks branch front_first) in
    let there : free < length e.states = omega (arith, count, here) in
    let second = after_lines present e asks in
    let zero = guard_skips present free guard e c below is there in
    let inner = room_behind present n e asks branch count front_first in
    let inside : free < free + 1 = omega arith in
    let above : free ≤ free + 1 = omega arith in
    let asks_keep = assign_keeps present free asks e (stored_from free w (branched_from free (Some guard) c)) in
    let branch_keeps = block_skips then_block present (free + 1) free n second inside inner.0 inner.1 zero in
    let skips = keeps_lower free (free + 1) second (after_lines present second branch) above branch_keeps in
    let first = keeps_both present free e e asks branch asks_keep skips in
    let third = after_lines present e xs in
    let middle = room_behind present n e xs zs count front in
    let third_is : third ≡ after_lines present second branch = after_both present e asks branch in
    let still : slice_get third.states free ≡ Some (pos 0) = ap (λ (f : Effect). slice_get f.states free) third_is ∙ branch_keeps.states free inside ∙ zero in
    let guard_is : operand_value third.states present (State guard) ≡ pos 0 = state_read present third guard (pos 0) (first.states guard below ∙ is) in
    let room_third : free < length third.states = omega (arith, middle.0, here) in
    let turns = guard_turned present free (Some guard) third (pos 0) (pos 0) guard_is still room_third in
    let fourth = after_lines present third (turn ∷ []) in
    let last = room_behind present n third (turn ∷ []) other middle.0 middle.1 in
    let other_keeps = keeps_lower free (free + 1) fourth (after_lines present fourth other) above (block_skips else_block present (free + 1) free n fourth inside last.0 last.1 turns.is) in
    let turned_keeps = keeps_both present free third third (turn ∷ []) other turns.keeps other_keeps in
    let all = keeps_both present free e e xs zs first turned_keeps in
    let behind = room_behind present n e (xs ++ zs) ys count room in
    keeps_both present free e e (xs ++ zs) ys all (block_skips rest present free guard n (after_lines present e (xs ++ zs)) below behind.0 behind.1 (all.states guard below ∙ is))

-- in a branch that runs, and outside of all, the lines do what the block says
pub block_runs : (block : Block) (present : ℕ → Option ℤ) (own free n : ℕ) (around : Option ℕ) (old e : Effect) → IsProper own free block → AreWithin old.states present → KeepsBelow free old e →
    length e.states ≡ n → own ≤ free → AssignBelow n (block_lines free around block) → IsRunning own free around old →
    KeepsBelow free (after_block free present old block) (after_lines present e (block_lines free around block))
block_runs End present own free n around old e proper all keeps count from room running = keeps
block_runs (Do' place target f p rest) present own free n around old e proper all keeps count from room running =
    let w = worked_out free f in
    let v = value_of old.states present f in
    let xs = deed_lines free (guard_of around) target w in
    let ys = block_lines free around rest in
    let front = room_at n e xs count (assign_front n xs ys room) in
    let above : free ≤ free = omega arith in
    let gives = formula_at present free free old e f above proper.1 all keeps (deed_front (length e.states) free (guard_of around) target w front) in
    let done = deed_done present free free old e (guard_of around) target w v true above keeps gives front (guard_below own free around old running) (guard_met present own free around old e keeps running) in
    let next = after_deed old target v in
    let behind = room_behind present n e xs ys count room in
    let within = deed_within present old target v all (value_fits f old.states present all proper.1.1) in
    let still = running_kept own free around old next (λ k above below. deed_between target own k old v proper.0 above) running in
    related_both present free (after_block free present next rest) e xs ys
    (block_runs rest present own free n around next (after_lines present e xs) proper.2 within done behind.0 from behind.1 still)
block_runs (When' place c target f p rest) present own free n around old e proper all keeps count from room running =
    let b = is_true (value_of old.states present c) in
    let v = value_of old.states present f in
    let condition = kept free (asked free around c) in
    let w = worked_out condition.free f in
    let deed = deed_lines condition.free (Some condition.operand) target w in
    let xs = condition.lines ++ deed in
    let ys = block_lines free around rest in
    let front = assign_front n xs ys room in
    let asks = asked_runs present own free around old e c proper.0 all keeps running (room_at n e condition.lines count (assign_front n condition.lines deed front)) in
    let second = after_lines present e condition.lines in
    let above : free ≤ free = omega arith in
    let same : KeepsBelow free old second = keeps_trans free free old e second above keeps asks.holds.keeps in
    let inner = room_behind present n e condition.lines deed count front in
    let deed_room = room_at n second deed inner.0 inner.1 in
    let gives = formula_at present free condition.free old second f asks.holds.grows proper.2 all same (deed_front (length second.states) condition.free (Some condition.operand) target w deed_room) in
    let met : is_true (operand_value second.states present condition.operand) ≡ b = ap is_true asks.holds.reads ∙ asks.is in
    let done = deed_done present free condition.free old second (Some condition.operand) target w v b asks.holds.grows same gives deed_room asks.holds.low met in
    let does = after_deed old target v in
    let next = cond b does old in
    let related = related_both present free next e condition.lines deed done in
    let behind = room_behind present n e xs ys count room in
    let within = chosen_within b present does old (deed_within present old target v all (value_fits f old.states present all proper.2.1)) all in
    let still = running_kept own free around old next (λ k above below. chosen_between b k old does old (deed_between target own k old v proper.1 above) refl) running in
    related_both present free (after_block free present next rest) e xs ys
    (block_runs rest present own free n around next (after_lines present e xs) proper.3 within related behind.0 from behind.1 still)
block_runs (Let' place f p rest) present own free n around old e proper all keeps count from room running =
    let w = worked_out free f in
    let v = value_of old.states present f in
    let xs = stored_lines free w in
    let ys = block_lines (free + 1) around rest in
    let front = assign_front n xs ys room in
    let here : free < n = stored_room n free w front in
    let there : free < length e.states = omega (arith, count, here) in
    let above : free ≤ free = omega arith in
    let gives = formula_at present free free old e f above proper.0 all keeps (room_at n e w.lines count (assign_front n w.lines (assigned free w.last ∷ []) front)) in
    let related = stored_related present free old e w v keeps gives there in
    let next = with_value old free v in
    let behind = room_behind present n e xs ys count room in
    let within : AreWithin next.states present = value_within present old free v all (value_fits f old.states present all proper.0.1) in
    let further : own ≤ free + 1 = omega arith in
    let higher : free ≤ free + 1 = omega arith in
    let mid = after_lines present e xs in
    related_both present free (after_block (free + 1) present next rest) e xs ys
    (keeps_lower free (free + 1) (after_block (free + 1) present next rest) (after_lines present mid ys) higher
    (block_runs rest present own (free + 1) n around next mid proper.1 within related behind.0 further behind.1 (running_next own free around old v running)))
block_runs (If' place c p then_block q rest) present own free n around old e proper all keeps count from room running =
    let b = is_true (value_of old.states present c) in
    let w = branched free around c in
    let asks = stored_lines free w in
    let lines = block_lines (free + 1) (Some free) then_block in
    let xs = asks ++ lines in
    let ys = block_lines free around rest in
    let front = assign_front n xs ys room in
    let asks_room = assign_front n asks lines front in
    let here : free < n = stored_room n free w asks_room in
    let there : free < length e.states = omega (arith, count, here) in
    let old_there : free < length old.states = omega (arith, keeps.count, there) in
    let above : free ≤ free = omega arith in
    let higher : free ≤ free + 1 = omega arith in
    let further : own ≤ free + 1 = omega arith in
    let inside : free < free + 1 = omega arith in
    let gives = branched_runs present own free around old e c proper.0 all keeps running (room_at n e w.lines count (assign_front n w.lines (assigned free w.last ∷ []) asks_room)) in
    let second = after_lines present e asks in
    let third = after_lines present second lines in
    let inner = room_behind present n e asks lines count front in
    let branch = with_value old free (pos 1) in
    let branch_within : AreWithin branch.states present = value_within present old free (pos 1) all one_fits in
    let does = after_block (free + 1) present branch then_block in
    let runs : b ≡ true → KeepsBelow free does third = λ is.
    let set = subst (λ b. GivesIn present free e w (truth_value b)) is gives in
    let related = stored_related present free old e w (pos 1) keeps set there in
    keeps_lower free (free + 1) does third higher
    (block_runs then_block present own (free + 1) n (Some free) branch second proper.1 branch_within related inner.0 further inner.1 (from, inside, get_set_same old.states free (pos 1) old_there)) in
    let skips : b ≡ false → KeepsBelow free old third = λ is.
    let zero = stored_is present free e w (pos 0) (branched_from free around c) (gives.law.gives ∙ ap truth_value is) there in
    let asks_keep = keeps_trans free free old e second above keeps (assign_keeps present free asks e (stored_from free w (branched_from free around c))) in
    keeps_trans free (free + 1) old second third higher asks_keep (block_skips then_block present (free + 1) free n second inside inner.0 inner.1 zero) in
    let next = cond b does old in
    let related = related_both present free next e asks lines (chosen_keeps b free does old third runs skips) in
    let behind = room_behind present n e xs ys count room in
    let within = chosen_within b present does old (block_within then_block present own (free + 1) branch proper.1 branch_within) all in
    let still = running_kept own free around old next
    (λ k above below. chosen_between b k old does old (block_between then_block present own (free + 1) k branch proper.1 above (omega arith) ∙ set_below old free k (pos 1) below) refl) running in
    related_both present free (after_block free present next rest) e xs ys
    (block_runs rest present own free n around next (after_lines present e xs) proper.2 within related behind.0 from behind.1 still)
block_runs (IfElse' place c p then_block q else_block r rest) present own free n around old e proper all keeps count from room running =
    let b = is_true (value_of old.states present c) in
    let w = branched free around c in
    let asks = stored_lines free w in
    let lines = block_lines (free + 1) (Some free) then_block in
    let turn = turned_guard free around in
    let others = block_lines (free + 1) (Some free) else_block in
    let xs = asks ++ lines in
    let zs = turn ∷ others in
    let ys = block_lines free around rest in
    let front = assign_front n (xs ++ zs) ys room in
    let front_first = assign_front n xs zs front in
    let asks_room = assign_front n asks lines front_first in
    let here : free < n = stored_room n free w asks_room in
    let there : free < length e.states = omega (arith, count, here) in
    let old_there : free < length old.states = omega (arith, keeps.count, there) in
    let above : free ≤ free = omega arith in
    let higher : free ≤ free + 1 = omega arith in
    let further : own ≤ free + 1 = omega arith in
    let inside : free < free + 1 = omega arith in
    let gives = branched_runs present own free around old e c proper.0 all keeps running (room_at n e w.lines count (assign_front n w.lines (assigned free w.last ∷ []) asks_room)) in
    let second = after_lines present e asks in
    let third = after_lines present second lines in
    let inner = room_behind present n e asks lines count front_first in
    let third_count : length third.states ≡ n = lines_count present lines second ∙ inner.0 in
    let third_there : free < length third.states = omega (arith, third_count, here) in
    let rest_room = assign_back n xs zs front in
    let fourth = after_lines present third (turn ∷ []) in
    let last = room_behind present n third (turn ∷ []) others third_count rest_room in
    let fourth_there : free < length fourth.states = omega (arith, last.0, here) in
    let fifth = after_lines present fourth others in
    let branch = with_value old free (pos 1) in
    let branch_within : AreWithin branch.states present = value_within present old free (pos 1) all one_fits in
    let branch_is : slice_get branch.states free ≡ Some (pos 1) = get_set_same old.states free (pos 1) old_there in
    let does = after_block (free + 1) present branch then_block in
    let else_does = after_block (free + 1) present branch else_block in
    let does_between : (k : ℕ) → own ≤ k → k < free → slice_get does.states k ≡ slice_get old.states k =
    λ k above below. block_between then_block present own (free + 1) k branch proper.1 above (omega arith) ∙ set_below old free k (pos 1) below in
    let else_between : (k : ℕ) → own ≤ k → k < free → slice_get else_does.states k ≡ slice_get old.states k =
    λ k above below. block_between else_block present own (free + 1) k branch proper.2 above (omega arith) ∙ set_below old free k (pos 1) below in
    let runs : b ≡ true → KeepsBelow free does fifth = λ is.
    let set = subst (λ b. GivesIn present free e w (truth_value b)) is gives in
    let related = stored_related present free old e w (pos 1) keeps set there in
    let ran = block_runs then_block present own (free + 1) n (Some free) branch second proper.1 branch_within related inner.0 further inner.1 (from, inside, branch_is) in
    let ran_lower = keeps_lower free (free + 1) does third higher ran in
    let one : slice_get third.states free ≡ Some (pos 1) = ran.states free inside ∙ block_between then_block present own (free + 1) free branch proper.1 from inside ∙ branch_is in
    let running_does = running_kept own free around old does does_between running in
    let turns = guard_turned present free around third (pos 1) (pos 1) (around_is present own free around does third ran_lower running_does) one third_there in
    let skipped = block_skips else_block present (free + 1) free n fourth inside last.0 last.1 turns.is in
    keeps_trans free (free + 1) does fourth fifth higher (keeps_trans free free does third fourth above ran_lower turns.keeps) skipped in
    let skips : b ≡ false → KeepsBelow free else_does fifth = λ is.
    let zero = stored_is present free e w (pos 0) (branched_from free around c) (gives.law.gives ∙ ap truth_value is) there in
    let asks_keep = keeps_trans free free old e second above keeps (assign_keeps present free asks e (stored_from free w (branched_from free around c))) in
    let skipped = block_skips then_block present (free + 1) free n second inside inner.0 inner.1 zero in
    let same = keeps_trans free (free + 1) old second third higher asks_keep skipped in
    let still_zero : slice_get third.states free ≡ Some (pos 0) = skipped.states free inside ∙ zero in
    let turns = guard_turned present free around third (pos 1) (pos 0) (around_is present own free around old third same running) still_zero third_there in
    let related = next_by_value free old fourth (pos 1) (keeps_trans free free old third fourth above same turns.keeps) turns.is fourth_there in
    keeps_lower free (free + 1) else_does fifth higher
    (block_runs else_block present own (free + 1) n (Some free) branch fourth proper.2 branch_within related last.0 further last.1 (from, inside, branch_is)) in
    let next = cond b does else_does in
    let chosen = chosen_keeps b free does else_does fifth runs skips in
    let third_is : after_lines present e xs ≡ third = after_both present e asks lines in
    let turned : KeepsBelow free next (after_lines present (after_lines present e xs) zs) =
    subst (λ f. KeepsBelow free next (after_lines present f zs)) (sym third_is) chosen in
    let related = related_both present free next e xs zs turned in
    let behind = room_behind present n e (xs ++ zs) ys count room in
    let within = chosen_within b present does else_does (block_within then_block present own (free + 1) branch proper.1 branch_within) (block_within else_block present own (free + 1) branch proper.2 branch_within) in
    let still = running_kept own free around old next (λ k above below. chosen_between b k old does else_does (does_between k above below) (else_between k above below)) running in
    related_both present free (after_block free present next rest) e (xs ++ zs) ys
    (block_runs rest present own free n around next (after_lines present e (xs ++ zs)) proper.3 within related behind.0 from behind.1 still)
