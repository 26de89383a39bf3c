-- A body as body lines of one operator each.
use Rattle.std.specs.Prelude.{ℕ, ◌+◌, pos, List, [], ◌∷◌, ◌++◌, Option, None, Some}
use Rattle.reactor_program.specs.declared.program.Operand.{Operand}
use Rattle.reactor_program.specs.declared.program.Operand.TheVariants.{Number, State}
use Rattle.reactor_program.specs.declared.program.Operator.TheVariants.{Minus, Times}
use Rattle.reactor_program.specs.declared.program.Expression.TheVariants.{Binary}
use Rattle.reactor_program.specs.declared.program.Statement.{Statement}
use Rattle.reactor_program.specs.declared.program.Statement.TheVariants.{Assign, Output, Schedule}
use Rattle.reactor_program.specs.declared.program.Line.{Line}
use Rattle.expand_expressions.specs.declared.formula.Formula.{Formula}
use Rattle.expand_expressions.specs.Meaning.{is_truth}
use Rattle.expand_expressions.specs.Division.{assigned}
use Rattle.expand_expressions.specs.Working.{Worked, worked, keeping_lines, kept_operand, kept, as_truth}
use Rattle.expand_expressions.specs.Working.{worked_out}
use Rattle.expand_bodies.specs.declared.block.Target.{Target}
use Rattle.expand_bodies.specs.declared.block.Target.TheVariants.{ToState, ToOutput, ToAction}
use Rattle.expand_bodies.specs.declared.block.Block.{Block}
use Rattle.expand_bodies.specs.declared.block.Block.TheVariants.{End, Do', When', Let', If', IfElse'}

abbrev pub line : Option Operand → Statement → Line
line condition statement = record { condition = condition; statement = statement }

-- a value goes where it is to go, where the condition, if there is one, isn't 0
abbrev pub deed_lines : ℕ → Option Operand → Target → Worked → List Line
deed_lines free condition (ToState k) w = w.lines ++ line condition (Assign k w.last) ∷ []
deed_lines free condition (ToOutput port) w =
    (kept free w).lines ++ line condition (Output port (kept free w).operand) ∷ []
deed_lines free condition (ToAction slot delay) w =
    (kept free w).lines ++ line condition (Schedule slot delay (kept free w).operand) ∷ []

-- the condition of all that stands in a branch: the state that is 1 where the branch runs, and else 0
abbrev pub guard_of : Option ℕ → Option Operand
guard_of None = None
guard_of (Some guard) = Some (State guard)

-- whether a formula is a truth, as 1 or 0
abbrev pub truth_of : ℕ → Formula → Worked
truth_of free c = as_truth free (is_truth c) (worked_out free c)

-- 0 where the branch around it doesn't run
abbrev pub within : ℕ → ℕ → Worked → Worked
within free guard w =
    worked (w.lines ++ keeping_lines free w.last) (Binary (kept_operand free w.last) Times (State guard))

-- the condition of a single statement
abbrev pub asked : ℕ → Option ℕ → Formula → Worked
asked free None c = worked_out free c
asked free (Some guard) c = within free guard (truth_of free c)

-- the guard of a branch
abbrev pub branched : ℕ → Option ℕ → Formula → Worked
branched free None c = truth_of free c
branched free (Some guard) c = within free guard (truth_of free c)

-- a value goes to the first free state
abbrev pub stored_lines : ℕ → Worked → List Line
stored_lines free w = w.lines ++ assigned free w.last ∷ []

-- from the guard of a branch to that of the other one
abbrev pub around_operand : Option ℕ → Operand
around_operand None = Number (pos 1)
around_operand (Some guard) = State guard

abbrev pub turned_guard : ℕ → Option ℕ → Line
turned_guard free around = assigned free (Binary (around_operand around) Minus (State free))

-- the lines of a block, where states from this one on are free, in a branch or in none
abbrev pub block_lines : ℕ → Option ℕ → Block → List Line
block_lines free around End = []
block_lines free around (Do' place target f p rest) =
    deed_lines free (guard_of around) target (worked_out free f) ++ block_lines free around rest
block_lines free around (When' place c target f p rest) =
    let condition = kept free (asked free around c) in
    (condition.lines ++ deed_lines condition.free (Some condition.operand) target (worked_out condition.free f))
    ++ block_lines free around rest
block_lines free around (Let' place f p rest) =
    stored_lines free (worked_out free f) ++ block_lines (free + 1) around rest
block_lines free around (If' place c p then_block q rest) =
    (stored_lines free (branched free around c) ++ block_lines (free + 1) (Some free) then_block)
    ++ block_lines free around rest
block_lines free around (IfElse' place c p then_block q else_block r rest) =
    ((stored_lines free (branched free around c) ++ block_lines (free + 1) (Some free) then_block)
    ++ (turned_guard free around ∷ block_lines (free + 1) (Some free) else_block)) ++ block_lines free around rest
