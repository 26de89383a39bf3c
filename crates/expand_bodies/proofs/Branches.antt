-- Of an `if` with an `else` one branch runs.
use Rattle.std.proofs.Common.{◌≤◌, ℕ, ◌+◌, ℤ, pos, Bool, true, false, cond, MatchBool, length, Option, None, Some, refl, subst, arith}
use Rattle.network.specs.Network.{Effect}
use Rattle.expand_expressions.specs.declared.formula.Formula.{Formula}
use Rattle.expand_expressions.specs.Meaning.{is_true, value_of, AreWithin}
use Rattle.expand_expressions.specs.Laws.{AssignBelow, KeepsBelow, after_lines}
use Rattle.expand_expressions.proofs.Keeping.{keeps_refl}
use Rattle.expand_bodies.specs.declared.block.Block.{Block}
use Rattle.expand_bodies.specs.declared.block.Block.TheVariants.{End, Do', When', Let', If', IfElse'}
use Rattle.expand_bodies.specs.Body.{with_value, after_block, after_branch, IsProper}
use Rattle.expand_bodies.specs.Lines.{block_lines}
use Rattle.expand_bodies.specs.Reading.{IsIf}
use Rattle.expand_bodies.proofs.Blocks.{block_runs}

pub body_runs : (block : Block) (present : ℕ → Option ℤ) (own : ℕ) (e : Effect) → IsProper own own block → AreWithin e.states present → AssignBelow (length e.states) (block_lines own None block) →
    KeepsBelow own (after_block own present e block) (after_lines present e (block_lines own None block))
body_runs block present own e proper within room =
    let from : own ≤ own = omega arith in
    block_runs block present own own (length e.states) None e e proper within (keeps_refl own e) refl from room tt

chosen_runs : (b : Bool) (own : ℕ) (present : ℕ → Option ℤ) (x y new : Effect) (rest : Block) → KeepsBelow own (after_block own present (cond b x y) rest) new →
    MatchBool b (KeepsBelow own (after_block own present x rest) new) (KeepsBelow own (after_block own present y rest) new)
chosen_runs true own present x y new rest h = h
chosen_runs false own present x y new rest h = h

pub one_runs : (block : Block) (condition : Formula) (first second rest : Block) (present : ℕ → Option ℤ) (own : ℕ) (e : Effect) → IsIf block condition first (Some second) rest → IsProper own own block → AreWithin e.states present →
    AssignBelow (length e.states) (block_lines own None block) → MatchBool (is_true (value_of e.states present condition))
    (KeepsBelow own (after_branch own present e first rest) (after_lines present e (block_lines own None block)))
    (KeepsBelow own (after_branch own present e second rest) (after_lines present e (block_lines own None block)))
one_runs (IfElse' place c p y q n r s) condition first second rest present own e is proper within room =
    let new = after_lines present e (block_lines own None (IfElse' place c p y q n r s)) in
    let Runs : Formula → Block → Block → Block → Type 0 = λ c y n s. MatchBool (is_true (value_of e.states present c)) (KeepsBelow own (after_branch own present e y s) new) (KeepsBelow own (after_branch own present e n s) new) in
    let branch = with_value e own (pos 1) in
    let all : Runs c y n s = chosen_runs (is_true (value_of e.states present c)) own present (after_block (own + 1) present branch y) (after_block (own + 1) present branch n) new s (body_runs (IfElse' place c p y q n r s) present own e proper within room) in
    subst (λ c. Runs c first second rest) is.0 (subst (λ y. Runs c y second rest) is.1 (subst (λ n. Runs c y n rest) is.2 (subst (λ s. Runs c y n s) is.3 all)))
one_runs (If' place c p y q s) condition first second rest present own e is proper within room = elim is [ ]
one_runs (Do' place t x p s) condition first second rest present own e is proper within room = elim is [ ]
one_runs (When' place d t x p s) condition first second rest present own e is proper within room = elim is [ ]
one_runs (Let' place x p s) condition first second rest present own e is proper within room = elim is [ ]
one_runs End condition first second rest present own e is proper within room = elim is [ ]
