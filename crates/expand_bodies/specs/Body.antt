-- What a body does, before any of it is made into lines.
use Rattle.std.specs.Prelude.{ℕ, ◌<◌, ◌+◌, ℤ, pos, if◌then◌else◌, [], ◌∷◌, ◌++◌, Option, slice_set}
use Rattle.network.specs.Network.{Effect}
use Rattle.reactor.specs.Effect.{with_output}
use Rattle.expand_expressions.specs.Meaning.{is_true, value_of, IsReadable}
use Rattle.expand_bodies.specs.declared.block.Target.{Target}
use Rattle.expand_bodies.specs.declared.block.Target.TheVariants.{ToState, ToOutput, ToAction}
use Rattle.expand_bodies.specs.declared.block.Block.{Block}
use Rattle.expand_bodies.specs.declared.block.Block.TheVariants.{End, Do', When', Let', If', IfElse'}

-- a state has a value
abbrev pub with_value : Effect → ℕ → ℤ → Effect
with_value e k value =
    record { states = slice_set e.states k value; outputs = e.outputs; schedulings = e.schedulings }

-- a value goes where it is to go
abbrev pub after_deed : Effect → Target → ℤ → Effect
after_deed e (ToState k) value = with_value e k value
after_deed e (ToOutput port) value =
    record { states = e.states; outputs = with_output e.outputs port value; schedulings = e.schedulings }
after_deed e (ToAction slot delay) value =
    record {
      states = e.states;
      outputs = e.outputs;
      schedulings = e.schedulings ++ record { slot = slot; delay = delay; value = value } ∷ [];
    }

-- After a block, where states from this one on are free: each formula is read when its turn comes. The first free state
-- is that of a `let`, or of the branches of an `if`, which is 1 within the one that runs.
abbrev pub after_block : ℕ → (ℕ → Option ℤ) → Effect → Block → Effect
after_block free present e End = e
after_block free present e (Do' place target f p rest) =
    after_block free present (after_deed e target (value_of e.states present f)) rest
after_block free present e (When' place c target f p rest) =
    after_block free present
    (if is_true (value_of e.states present c) then after_deed e target (value_of e.states present f) else e) rest
after_block free present e (Let' place f p rest) =
    after_block (free + 1) present (with_value e free (value_of e.states present f)) rest
after_block free present e (If' place c p then_block q rest) =
    after_block free present
    (if is_true (value_of e.states present c) then after_block (free + 1) present (with_value e free (pos 1)) then_block
    else e) rest
after_block free present e (IfElse' place c p then_block q else_block r rest) =
    after_block free present
    (if is_true (value_of e.states present c) then after_block (free + 1) present (with_value e free (pos 1)) then_block
    else after_block (free + 1) present (with_value e free (pos 1)) else_block) rest

-- after a branch, and what follows its `if`
abbrev pub after_branch : ℕ → (ℕ → Option ℤ) → Effect → Block → Block → Effect
after_branch free present e branch rest =
    after_block free present (after_block (free + 1) present (with_value e free (pos 1)) branch) rest

-- a state of the federate's own
abbrev pub IsOwn : ℕ → Target → Type 0
IsOwn own (ToState k) = k < own
IsOwn own (ToOutput port) = Unit {0}
IsOwn own (ToAction slot delay) = Unit {0}

-- statements set the federate's own states alone, and no formula reads a free state
abbrev pub IsProper : ℕ → ℕ → Block → Type 0
IsProper own free End = Unit {0}
IsProper own free (Do' place target f p rest) = IsOwn own target × IsReadable free f × IsProper own free rest
IsProper own free (When' place c target f p rest) =
    IsReadable free c × IsOwn own target × IsReadable free f × IsProper own free rest
IsProper own free (Let' place f p rest) = IsReadable free f × IsProper own (free + 1) rest
IsProper own free (If' place c p then_block q rest) =
    IsReadable free c × IsProper own (free + 1) then_block × IsProper own free rest
IsProper own free (IfElse' place c p then_block q else_block r rest) =
    IsReadable free c × IsProper own (free + 1) then_block × IsProper own (free + 1) else_block × IsProper own free rest
