-- The value of a formula.
use Rattle.std.specs.Prelude.{ℕ, ◌<◌, ℤ, pos, Bool, true, false, not, ◌&&◌, ◌||◌, if◌then◌else◌, List, Option}
use Rattle.std.specs.Prelude.{int_lt, int_rem, FitsSigned}
use Rattle.std.specs.Ordering.{int_eq}
use Rattle.std.specs.Int.{w64, int_min, int_max, int_wrapping_add, int_wrapping_sub, int_wrapping_mul}
use Rattle.std.specs.Int.{int_wrapping_div}
use Rattle.reactor_program.specs.declared.program.Operand.{Operand}
use Rattle.reactor_program.specs.declared.program.Operand.TheVariants.{Number, State, Value, Presence}
use Rattle.reactor.specs.Effect.{truth_value, operand_value}
use Rattle.expand_expressions.specs.declared.formula.Combination.{Combination}
use Rattle.expand_expressions.specs.declared.formula.Combination.TheVariants.{Sum, Difference, Product, Least, Greatest}
use Rattle.expand_expressions.specs.declared.formula.Combination.TheVariants.{IsLess, IsAtMost, IsGreater, IsAtLeast}
use Rattle.expand_expressions.specs.declared.formula.Combination.TheVariants.{IsEqual, IsDifferent, Both, Either}
use Rattle.expand_expressions.specs.declared.formula.Formula.{Formula}
use Rattle.expand_expressions.specs.declared.formula.Formula.TheVariants.{Leaf, Negative', Not', Combined', Quotient'}
use Rattle.expand_expressions.specs.declared.formula.Formula.TheVariants.{Remainder'}

-- every number but 0 is a truth
abbrev pub is_true : ℤ → Bool
is_true a = not (int_eq a (pos 0))

-- what two values are combined to; sums, differences and products wrap in 64 bits
abbrev pub combination_value : Combination → ℤ → ℤ → ℤ
combination_value Sum a b = int_wrapping_add w64 a b
combination_value Difference a b = int_wrapping_sub w64 a b
combination_value Product a b = int_wrapping_mul w64 a b
combination_value Least a b = int_min a b
combination_value Greatest a b = int_max a b
combination_value IsLess a b = truth_value (int_lt a b)
combination_value IsAtMost a b = truth_value (not (int_lt b a))
combination_value IsGreater a b = truth_value (int_lt b a)
combination_value IsAtLeast a b = truth_value (not (int_lt a b))
combination_value IsEqual a b = truth_value (int_eq a b)
combination_value IsDifferent a b = truth_value (not (int_eq a b))
combination_value Both a b = truth_value (is_true a && is_true b)
combination_value Either a b = truth_value (is_true a || is_true b)

-- rounded to 0, and wrapped; by 0 it is 0
abbrev pub quotient_value : ℤ → ℤ → ℤ
quotient_value a divisor = if int_eq divisor (pos 0) then pos 0 else int_wrapping_div w64 a divisor

-- what such a quotient leaves
abbrev pub remainder_value : ℤ → ℤ → ℤ
remainder_value a divisor = if int_eq divisor (pos 0) then a else int_rem a divisor

-- the value of a formula, in these states and with this present
abbrev pub value_of : List ℤ → (ℕ → Option ℤ) → Formula → ℤ
value_of states present (Leaf a) = operand_value states present a
value_of states present (Negative' p x) = int_wrapping_sub w64 (pos 0) (value_of states present x)
value_of states present (Not' p x) = truth_value (not (is_true (value_of states present x)))
value_of states present (Combined' p x combination q y) =
    combination_value combination (value_of states present x) (value_of states present y)
value_of states present (Quotient' p x divisor) = quotient_value (value_of states present x) divisor
value_of states present (Remainder' p x divisor) = remainder_value (value_of states present x) divisor

-- the numbers that stand in a formula have 64 bits
abbrev pub IsOperandWithin : Operand → Type 0
IsOperandWithin (Number n) = FitsSigned w64 n
IsOperandWithin (State k) = Unit {0}
IsOperandWithin (Value slot) = Unit {0}
IsOperandWithin (Presence slot) = Unit {0}

abbrev pub IsWithin : Formula → Type 0
IsWithin (Leaf a) = IsOperandWithin a
IsWithin (Negative' p x) = IsWithin x
IsWithin (Not' p x) = IsWithin x
IsWithin (Combined' p x combination q y) = IsWithin x × IsWithin y
IsWithin (Quotient' p x divisor) = IsWithin x × FitsSigned w64 divisor
IsWithin (Remainder' p x divisor) = IsWithin x × FitsSigned w64 divisor

-- all that can be read has 64 bits
abbrev pub AreWithin : List ℤ → (ℕ → Option ℤ) → Type 0
AreWithin states present = (a : Operand) → IsOperandWithin a → FitsSigned w64 (operand_value states present a)

-- an operand that is no state from this one on
abbrev pub IsOperandBelow : ℕ → Operand → Type 0
IsOperandBelow free (Number n) = Unit {0}
IsOperandBelow free (State k) = k < free
IsOperandBelow free (Value slot) = Unit {0}
IsOperandBelow free (Presence slot) = Unit {0}

-- a formula that reads no state from this one on
abbrev pub IsBelow : ℕ → Formula → Type 0
IsBelow free (Leaf a) = IsOperandBelow free a
IsBelow free (Negative' p x) = IsBelow free x
IsBelow free (Not' p x) = IsBelow free x
IsBelow free (Combined' p x combination q y) = IsBelow free x × IsBelow free y
IsBelow free (Quotient' p x divisor) = IsBelow free x
IsBelow free (Remainder' p x divisor) = IsBelow free x

-- no free state, and a number of 64 bits
abbrev pub IsOperandReadable : ℕ → Operand → Type 0
IsOperandReadable free a = IsOperandBelow free a × IsOperandWithin a

-- a formula that reads no free state, with numbers of 64 bits
abbrev pub IsReadable : ℕ → Formula → Type 0
IsReadable free formula = IsBelow free formula × IsWithin formula

-- only 1 and 0 come of it
abbrev pub gives_truth : Combination → Bool
gives_truth Sum = false
gives_truth Difference = false
gives_truth Product = false
gives_truth Least = false
gives_truth Greatest = false
gives_truth IsLess = true
gives_truth IsAtMost = true
gives_truth IsGreater = true
gives_truth IsAtLeast = true
gives_truth IsEqual = true
gives_truth IsDifferent = true
gives_truth Both = true
gives_truth Either = true

-- it asks only whether its sides are 0
abbrev pub reads_truths : Combination → Bool
reads_truths Both = true
reads_truths Either = true
reads_truths combination = false

abbrev pub is_presence : Operand → Bool
is_presence (Presence slot) = true
is_presence operand = false

-- a formula that can only be 1 or 0
abbrev pub is_truth : Formula → Bool
is_truth (Leaf a) = is_presence a
is_truth (Negative' p x) = false
is_truth (Not' p x) = true
is_truth (Combined' p x combination q y) = gives_truth combination
is_truth (Quotient' p x divisor) = false
is_truth (Remainder' p x divisor) = false
