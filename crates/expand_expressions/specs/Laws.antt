-- What lines do for a formula.
use Rattle.std.specs.Prelude.{◌≡◌, ◌≢◌, ℕ, ◌<◌, ℤ, Bool, true, false, List, [], ◌∷◌, ◌++◌, length, Option, Some, fold}
use Rattle.std.specs.Prelude.{slice_get}
use Rattle.network.specs.Network.{Effect}
use Rattle.reactor_program.specs.declared.program.Statement.{Statement}
use Rattle.reactor_program.specs.declared.program.Statement.TheVariants.{Assign, Output, Schedule}
use Rattle.reactor_program.specs.declared.program.Line.{Line}
use Rattle.reactor.specs.Effect.{expression_value, after_line}
use Rattle.expand_expressions.specs.declared.formula.Formula.{Formula}
use Rattle.expand_expressions.specs.Division.{assigned, assigned_where}
use Rattle.expand_expressions.specs.Working.{Worked, worked_out}

-- the states that lines assign are among the first `count`
abbrev pub AssignsBelow : ℕ → Statement → Type 0
AssignsBelow count (Assign k x) = k < count
AssignsBelow count (Output port a) = Unit {0}
AssignsBelow count (Schedule slot delay a) = Unit {0}

abbrev pub AssignBelow : ℕ → List Line → Type 0
AssignBelow count [] = Unit {0}
AssignBelow count (line ∷ lines) = AssignsBelow count line.statement × AssignBelow count lines

-- what was made so far is the same, but for states from this one on
pub record KeepsBelow (free : ℕ) (old new : Effect) : Type 0 where
  pub states : (k : ℕ) → k < free → slice_get new.states k ≡ slice_get old.states k
  pub count : length new.states ≡ length old.states
  pub outputs : new.outputs ≡ old.outputs
  pub schedulings : new.schedulings ≡ old.schedulings

-- after these lines
abbrev pub after_lines : (ℕ → Option ℤ) → Effect → List Line → Effect
after_lines present e lines = fold (after_line present) e lines

-- the lines change nothing but states from `free` on, and then the last operator has this value
pub record Gives (present : ℕ → Option ℤ) (free : ℕ) (e : Effect) (w : Worked) (value : ℤ) : Type 0 where
  pub keeps : KeepsBelow free e (after_lines present e w.lines)
  pub gives : expression_value (after_lines present e w.lines).states present w.last ≡ value

-- one state has a value; all others in front of the scratch states, outputs and schedulings are the same
pub record Sets (free target : ℕ) (old new : Effect) (value : ℤ) : Type 0 where
  pub value_is : slice_get new.states target ≡ Some value
  pub others : (k : ℕ) → k < free → k ≢ target → slice_get new.states k ≡ slice_get old.states k
  pub count : length new.states ≡ length old.states
  pub outputs : new.outputs ≡ old.outputs
  pub schedulings : new.schedulings ≡ old.schedulings

-- the lines of `NAME = EXPRESSION`
abbrev pub setting_lines : ℕ → ℕ → Formula → List Line
setting_lines free target formula =
    (worked_out free formula).lines ++ assigned target (worked_out free formula).last ∷ []

-- the lines of `NAME = EXPRESSION` where another state isn't 0
abbrev pub guarded_lines : ℕ → ℕ → ℕ → Formula → List Line
guarded_lines free guard target formula =
    (worked_out free formula).lines ++ assigned_where guard target (worked_out free formula).last ∷ []

-- with the guard 1 they set the state, and with 0 they change nothing but scratch states
abbrev pub Guards : ℕ → ℕ → Bool → Effect → Effect → ℤ → Type 0
Guards free target true old new value = Sets free target old new value
Guards free target false old new value = KeepsBelow free old new
