-- A formula as body lines of one operator each: what is in between stands in scratch states.
use Rattle.std.specs.Prelude.{ℕ, ◌+◌, ℤ, pos, Bool, true, false, if◌then◌else◌, List, [], ◌∷◌, ◌++◌}
use Rattle.reactor_program.specs.declared.program.Operand.{Operand}
use Rattle.reactor_program.specs.declared.program.Operand.TheVariants.{Number, State}
use Rattle.reactor_program.specs.declared.program.Operator.TheVariants.{Plus, Minus, Times, Minimum, Maximum, Less}
use Rattle.reactor_program.specs.declared.program.Operator.TheVariants.{Equal}
use Rattle.reactor_program.specs.declared.program.Expression.{Expression}
use Rattle.reactor_program.specs.declared.program.Expression.TheVariants.{Single, Binary}
use Rattle.reactor_program.specs.declared.program.Line.{Line}
use Rattle.expand_expressions.specs.declared.formula.Combination.{Combination}
use Rattle.expand_expressions.specs.declared.formula.Combination.TheVariants.{Sum, Difference, Product, Least, Greatest}
use Rattle.expand_expressions.specs.declared.formula.Combination.TheVariants.{IsLess, IsAtMost, IsGreater, IsAtLeast}
use Rattle.expand_expressions.specs.declared.formula.Combination.TheVariants.{IsEqual, IsDifferent, Both, Either}
use Rattle.expand_expressions.specs.declared.formula.Formula.{Formula}
use Rattle.expand_expressions.specs.declared.formula.Formula.TheVariants.{Leaf, Negative', Not', Combined', Quotient'}
use Rattle.expand_expressions.specs.declared.formula.Formula.TheVariants.{Remainder'}
use Rattle.expand_expressions.specs.Meaning.{is_truth, reads_truths}
use Rattle.expand_expressions.specs.Division.{assigned, divided_lines, divided_last}

-- lines, and the one operator that is left to do behind them
pub record Worked : Type 0 where
  pub lines : List Line
  pub last : Expression

abbrev pub worked : List Line → Expression → Worked
worked lines last = record { lines = lines; last = last }

-- lines, the operand in which a value is then, and the first scratch state that is free behind it
pub record Kept : Type 0 where
  pub lines : List Line
  pub operand : Operand
  pub free : ℕ

-- the lines that put a value into a scratch state, unless it is an operand already
abbrev pub keeping_lines : ℕ → Expression → List Line
keeping_lines free (Single a) = []
keeping_lines free (Binary a operator b) = assigned free (Binary a operator b) ∷ []

abbrev pub kept_operand : ℕ → Expression → Operand
kept_operand free (Single a) = a
kept_operand free (Binary a operator b) = State free

abbrev pub kept_free : ℕ → Expression → ℕ
kept_free free (Single a) = free
kept_free free (Binary a operator b) = free + 1

abbrev pub kept : ℕ → Worked → Kept
kept free w =
    record {
      lines = w.lines ++ keeping_lines free w.last;
      operand = kept_operand free w.last;
      free = kept_free free w.last;
    }

-- whether a value is 0
abbrev pub negated : ℕ → Worked → Worked
negated free w =
    worked (w.lines ++ keeping_lines free w.last) (Binary (kept_operand free w.last) Equal (Number (pos 0)))

-- 0 subtracts a value
abbrev pub subtracted : ℕ → Worked → Worked
subtracted free w =
    worked (w.lines ++ keeping_lines free w.last) (Binary (Number (pos 0)) Minus (kept_operand free w.last))

-- 1 where a value isn't 0, unless it can't be another one anyway
abbrev pub as_truth : ℕ → Bool → Worked → Worked
as_truth free true w = w
as_truth free false w = negated free (negated free w)

-- a side of a combination, as it reads it
abbrev pub sided : ℕ → Combination → Bool → Worked → Kept
sided free combination is_truth w = kept free (if reads_truths combination then as_truth free is_truth w else w)

-- what two operands are combined to, behind lines
abbrev pub combined : ℕ → List Line → Operand → Combination → Operand → Worked
combined free lines a Sum b = worked lines (Binary a Plus b)
combined free lines a Difference b = worked lines (Binary a Minus b)
combined free lines a Product b = worked lines (Binary a Times b)
combined free lines a Least b = worked lines (Binary a Minimum b)
combined free lines a Greatest b = worked lines (Binary a Maximum b)
combined free lines a IsLess b = worked lines (Binary a Less b)
combined free lines a IsAtMost b = negated free (worked lines (Binary b Less a))
combined free lines a IsGreater b = worked lines (Binary b Less a)
combined free lines a IsAtLeast b = negated free (worked lines (Binary a Less b))
combined free lines a IsEqual b = worked lines (Binary a Equal b)
combined free lines a IsDifferent b = negated free (worked lines (Binary a Equal b))
combined free lines a Both b = worked lines (Binary a Times b)
combined free lines a Either b = worked lines (Binary a Maximum b)

-- both sides, one after the other
abbrev pub combined_sides : ℕ → Combination → Kept → Kept → Worked
combined_sides free combination left right =
    combined free (left.lines ++ right.lines) left.operand combination right.operand

-- a value is divided
abbrev pub divided : ℕ → Bool → ℤ → Worked → Worked
divided free is_quotient divisor w =
    worked (w.lines ++ (assigned free w.last ∷ divided_lines free is_quotient divisor))
    (divided_last free is_quotient divisor)

-- a formula, with scratch states from `free` on
abbrev pub worked_out : ℕ → Formula → Worked
worked_out free (Leaf a) = worked [] (Single a)
worked_out free (Negative' p x) = subtracted free (worked_out free x)
worked_out free (Not' p x) = negated free (worked_out free x)
worked_out free (Combined' p x combination q y) =
    let left = sided free combination (is_truth x) (worked_out free x) in
    combined_sides free combination left (sided left.free combination (is_truth y) (worked_out left.free y))
worked_out free (Quotient' p x divisor) = divided free true divisor (worked_out free x)
worked_out free (Remainder' p x divisor) = divided free false divisor (worked_out free x)
