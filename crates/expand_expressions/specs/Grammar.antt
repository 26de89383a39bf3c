-- How expressions are written: which tokens spell a formula.
use Rattle.std.specs.Prelude.{◌≡◌, ℕ, ◌+◌, ◌≤◌, ℤ, pos, neg_ℤ, List, ◌∷◌, Option, FitsSigned}
use Rattle.std.specs.Int.{w64}
use Rattle.reactor_program.specs.declared.program.Operand.{Operand}
use Rattle.reactor_program.specs.declared.program.Operand.TheVariants.{Number}
use Rattle.expand_expressions.specs.declared.formula.Combination.{Combination}
use Rattle.expand_expressions.specs.declared.formula.Combination.TheVariants.{Sum, Difference, Product, IsLess}
use Rattle.expand_expressions.specs.declared.formula.Combination.TheVariants.{IsAtMost, IsGreater, IsAtLeast, IsEqual}
use Rattle.expand_expressions.specs.declared.formula.Combination.TheVariants.{IsDifferent, Both, Either}
use Rattle.expand_expressions.specs.declared.formula.Formula.{Formula}
use Rattle.expand_expressions.specs.declared.formula.Formula.TheVariants.{Leaf, Negative', Not', Combined', Quotient'}
use Rattle.expand_expressions.specs.declared.formula.Formula.TheVariants.{Remainder'}
use Rattle.expand_expressions.specs.declared.token.Sign.{Sign}
use Rattle.expand_expressions.specs.declared.token.Sign.TheVariants.{Or, And, Less, AtMost, Greater, AtLeast, Equal}
use Rattle.expand_expressions.specs.declared.token.Sign.TheVariants.{Different, Plus, Minus, Times, Slash, Percent}
use Rattle.expand_expressions.specs.declared.token.Joining.{Joining}
use Rattle.expand_expressions.specs.declared.token.Joining.TheVariants.{Combines, Divides, Leaves}
use Rattle.expand_expressions.specs.declared.token.Token.{Token}
use Rattle.expand_expressions.specs.declared.token.Token.TheVariants.{Digits, Name, Operator, Not, Call, Open, Close}
use Rattle.expand_expressions.specs.declared.token.Token.TheVariants.{Comma}
use Rattle.expand_expressions.specs.Meaning.{value_of}

-- how tightly an operator binds: the greater, the tighter; 3 is for `not`, and 7 for what has no operator
abbrev pub level_of : Sign → ℕ
level_of Or = 1
level_of And = 2
level_of Less = 4
level_of AtMost = 4
level_of Greater = 4
level_of AtLeast = 4
level_of Equal = 4
level_of Different = 4
level_of Plus = 5
level_of Minus = 5
level_of Times = 6
level_of Slash = 6
level_of Percent = 6

-- how tightly what stands to the left of it binds at least: as tightly, but a comparison is no side of another one
abbrev pub left_level : Sign → ℕ
left_level Or = 1
left_level And = 2
left_level Less = 5
left_level AtMost = 5
left_level Greater = 5
left_level AtLeast = 5
left_level Equal = 5
left_level Different = 5
left_level Plus = 5
left_level Minus = 5
left_level Times = 6
left_level Slash = 6
left_level Percent = 6

-- what an operator makes of its sides
abbrev pub joining_of : Sign → Joining
joining_of Or = Combines Either
joining_of And = Combines Both
joining_of Less = Combines IsLess
joining_of AtMost = Combines IsAtMost
joining_of Greater = Combines IsGreater
joining_of AtLeast = Combines IsAtLeast
joining_of Equal = Combines IsEqual
joining_of Different = Combines IsDifferent
joining_of Plus = Combines Sum
joining_of Minus = Combines Difference
joining_of Times = Combines Product
joining_of Slash = Divides
joining_of Percent = Leaves

-- a formula has one value, whatever states there are and whatever is present
abbrev pub IsKnown : Formula → ℤ → Type 0
IsKnown formula n = (states : List ℤ) (present : ℕ → Option ℤ) → value_of states present formula ≡ n

-- a formula is made of two; a divisor is known
abbrev pub IsJoined : Formula → Formula → Joining → Formula → Type 0
IsJoined (Combined' p x combination q y) left (Combines which) right = (x ≡ left) × (combination ≡ which) × (y ≡ right)
IsJoined (Quotient' p x divisor) left Divides right = (x ≡ left) × IsKnown right divisor
IsJoined (Remainder' p x divisor) left Leaves right = (x ≡ left) × IsKnown right divisor
IsJoined formula left joining right = ⊥

-- a formula is the negative of another one
abbrev pub IsNegative : Formula → Formula → Type 0
IsNegative (Negative' p x) inner = x ≡ inner
IsNegative formula inner = ⊥

-- a formula asks whether another one is 0
abbrev pub IsNot : Formula → Formula → Type 0
IsNot (Not' p x) inner = x ≡ inner
IsNot formula inner = ⊥

-- Tokens that begin with such as spell a formula, whose numbers have 64 bits, and whose operators bind at least so tightly, and those that follow them.
-- To the right of an operator all binds more tightly.
pub data Spells : ℕ → List Token → Formula → List Token → Type 0 where
  looser : {level : ℕ} {old new : List Token} {formula : Formula} (tighter : ℕ) → level ≤ tighter
      → Spells tighter old formula new → Spells level old formula new
  digits : (magnitude : ℕ) (new : List Token) → FitsSigned w64 (pos magnitude)
      → Spells 7 (Digits magnitude ∷ new) (Leaf (Number (pos magnitude))) new
  lower_digits : (magnitude : ℕ) (new : List Token) → FitsSigned w64 (neg_ℤ (pos magnitude))
      → Spells 7 (Operator Minus ∷ Digits magnitude ∷ new) (Leaf (Number (neg_ℤ (pos magnitude)))) new
  name : (operand : Operand) (new : List Token) → Spells 7 (Name operand ∷ new) (Leaf operand) new
  enclosed : {old new : List Token} {formula : Formula}
      → Spells 1 old formula (Close ∷ new) → Spells 7 (Open ∷ old) formula new
  called : {old between new : List Token} {left right : Formula} (combination : Combination) (formula : Formula)
      → Spells 1 old left (Comma ∷ between) → Spells 1 between right (Close ∷ new)
      → IsJoined formula left (Combines combination) right → Spells 7 (Call combination ∷ Open ∷ old) formula new
  negative : {old new : List Token} {inner : Formula} (formula : Formula)
      → Spells 7 old inner new → IsNegative formula inner → Spells 7 (Operator Minus ∷ old) formula new
  opposite : {old new : List Token} {inner : Formula} (formula : Formula)
      → Spells 3 old inner new → IsNot formula inner → Spells 3 (Not ∷ old) formula new
  joined : {old between new : List Token} {left right : Formula} (sign : Sign) (formula : Formula)
      → Spells (left_level sign) old left (Operator sign ∷ between) → Spells (level_of sign + 1) between right new
      → IsJoined formula left (joining_of sign) right → Spells (level_of sign) old formula new
