-- Bodies that are worked by hand, as trees and as body lines.
use Rattle.std.specs.Prelude.{ℕ, ℤ, pos, [], ◌∷◌, Option, None, Some, if◌then◌else◌, nat_eq, slice_get}
use Rattle.std.specs.declared.alloc.Global.{Global}
use Rattle.std.specs.declared.boxed.Box.{Box}
use Rattle.reactor_program.specs.declared.program.Operand.TheVariants.{Number, State, Value}
use Rattle.reactor.specs.Effect.{effect_before}
use Rattle.expand_expressions.specs.declared.formula.Combination.TheVariants.{Sum, IsLess, IsGreater}
use Rattle.expand_expressions.specs.declared.formula.Formula.TheVariants.{Leaf, Combined'}
use Rattle.expand_expressions.specs.Laws.{after_lines}
use Rattle.expand_bodies.specs.declared.block.Target.TheVariants.{ToState, ToOutput}
use Rattle.expand_bodies.specs.declared.block.Block.{Block}
use Rattle.expand_bodies.specs.declared.block.Block.TheVariants.{End, Do', Let', If', IfElse'}
use Rattle.expand_bodies.specs.Body.{after_block}
use Rattle.expand_bodies.specs.Lines.{block_lines}

-- where a part of a tree lies, which nothing depends on
abbrev pub Place : Type 0
Place = Box (Unit {0}) Global

-- `if in.t < 19`, `heat = 1`, `elif in.t > 22`, `heat = 0`, `end`, `out.y = heat`
abbrev pub thermostat : Place → Block
thermostat p =
    IfElse' 1 (Combined' p (Leaf (Value 1)) IsLess p (Leaf (Number (pos 19)))) p
    (Do' 2 (ToState 0) (Leaf (Number (pos 1))) p End) p
    (If' 3 (Combined' p (Leaf (Value 1)) IsGreater p (Leaf (Number (pos 22)))) p
    (Do' 4 (ToState 0) (Leaf (Number (pos 0))) p End) p End) p
    (Do' 6 (ToOutput 0) (Leaf (State 0)) p End)

-- a value is present at the first input alone
abbrev pub only : ℤ → ℕ → Option ℤ
only value slot = if nat_eq slot 1 then Some value else None

-- the thermostat's output, with this state before, at this temperature
abbrev pub heat : Place → ℤ → ℤ → Option ℤ
heat p before t = (after_block 1 (only t) (effect_before (before ∷ pos 0 ∷ pos 0 ∷ [])) (thermostat p)).outputs 0

-- the same of its body lines
abbrev pub heat_by_lines : Place → ℤ → ℤ → Option ℤ
heat_by_lines p before t =
    (after_lines (only t) (effect_before (before ∷ pos 0 ∷ pos 0 ∷ [])) (block_lines 1 None (thermostat p))).outputs 0

-- `let old = a`, `a = b`, `b = old + a`
abbrev pub stepped : Place → Block
stepped p =
    Let' 1 (Leaf (State 0)) p (Do' 2 (ToState 0) (Leaf (State 1)) p
    (Do' 3 (ToState 1) (Combined' p (Leaf (State 2)) Sum p (Leaf (State 0))) p End))

-- a state after it, where a is 3 and b is 5 before
abbrev pub state_after : Place → ℕ → Option ℤ
state_after p k =
    slice_get (after_block 2 (λ slot. None) (effect_before (pos 3 ∷ pos 5 ∷ pos 0 ∷ [])) (stepped p)).states k

abbrev pub state_after_lines : Place → ℕ → Option ℤ
state_after_lines p k =
    slice_get
    (after_lines (λ slot. None) (effect_before (pos 3 ∷ pos 5 ∷ pos 0 ∷ [])) (block_lines 2 None (stepped p))).states k
