-- What was read is spelled by the tokens that were taken.
use Rattle.std.proofs.Common.{◌≡◌, Bool, true, false, MatchBool, ℕ, ◌+◌, ◌≤◌, pos, List, [], ◌∷◌, Result, Ok, Err, IfOk, sym, ap, ◌∙◌, subst}
use Rattle.std.specs.Prelude.{neg_ℤ, FitsSigned}
use Rattle.std.specs.Int.{w64}
use Rattle.reactor_program.specs.declared.program.Operand.{Operand}
use Rattle.reactor_program.specs.declared.program.Operand.TheVariants.{Number}
use Rattle.expand_expressions.specs.declared.fault.ExpressionFault.{ExpressionFault}
use Rattle.expand_expressions.specs.declared.formula.Combination.{Combination}
use Rattle.expand_expressions.specs.declared.formula.Formula.{Formula}
use Rattle.expand_expressions.specs.declared.formula.Formula.TheVariants.{Leaf}
use Rattle.expand_expressions.specs.declared.token.Sign.{Sign}
use Rattle.expand_expressions.specs.declared.token.Sign.TheVariants.{Minus}
use Rattle.expand_expressions.specs.declared.token.Joining.TheVariants.{Combines}
use Rattle.expand_expressions.specs.declared.token.Token.{Token}
use Rattle.expand_expressions.specs.declared.token.Token.TheVariants.{Digits, Name, Operator, Not, Call, Open, Close, Comma}
use Rattle.expand_expressions.specs.Grammar.{level_of, left_level, joining_of, IsJoined, IsNegative, IsNot, Spells, looser, digits, lower_digits, name, enclosed, called, negative, opposite, joined}

-- what is spelled, from the same tokens and up to the same
from_same : (level : ℕ) (old mid : List Token) (formula : Formula) (new : List Token) → old ≡ mid → Spells level mid formula new → Spells level old formula new
from_same level old mid formula new is h = subst (λ old. Spells level old formula new) (sym is) h

up_to_same : (level : ℕ) (old : List Token) (formula : Formula) (mid new : List Token) → mid ≡ new → Spells level old formula mid → Spells level old formula new
up_to_same level old formula mid new is h = subst (λ new. Spells level old formula new) is h

token_is : (old mid : List Token) (token shown : Token) → old ≡ token ∷ mid → token ≡ shown → old ≡ shown ∷ mid
token_is old mid token shown is which = is ∙ ap (λ t. t ∷ mid) which

-- one token, and what was read behind it
pub behind_token : (level : ℕ) (old mid new : List Token) (token shown : Token) (r : Result Formula ExpressionFault) → old ≡ token ∷ mid → token ≡ shown →
    IfOk r (λ formula. Spells level (shown ∷ mid) formula new) → IfOk r (λ formula. Spells level old formula new)
behind_token level old mid new token shown r is which h =
    subst (λ tokens. IfOk r (λ formula. Spells level tokens formula new)) (sym (token_is old mid token shown is which)) h

pub digits_read : (old new : List Token) (token : Token) (n : ℕ) (r : Result Formula ExpressionFault) → old ≡ token ∷ new → token ≡ Digits n →
    IfOk r (λ formula. (formula ≡ Leaf (Number (pos n))) × FitsSigned w64 (pos n)) → IfOk r (λ formula. Spells 7 old formula new)
digits_read old new token n (Ok formula) is which h =
    subst (λ formula. Spells 7 old formula new) (sym h.0) (from_same 7 old (Digits n ∷ new) (Leaf (Number (pos n))) new (token_is old new token (Digits n) is which) (digits n new h.1))
digits_read old new token n (Err fault) is which h = tt

pub lower_digits_read : (old new : List Token) (n : ℕ) (r : Result Formula ExpressionFault) → old ≡ Digits n ∷ new →
    IfOk r (λ formula. (formula ≡ Leaf (Number (neg_ℤ (pos n)))) × FitsSigned w64 (neg_ℤ (pos n))) → IfOk r (λ formula. Spells 7 (Operator Minus ∷ old) formula new)
lower_digits_read old new n (Ok formula) is h =
    subst (λ formula. Spells 7 (Operator Minus ∷ old) formula new) (sym h.0)
    (from_same 7 (Operator Minus ∷ old) (Operator Minus ∷ Digits n ∷ new) (Leaf (Number (neg_ℤ (pos n)))) new (ap (λ old. Operator Minus ∷ old) is) (lower_digits n new h.1))
lower_digits_read old new n (Err fault) is h = tt

pub name_read : (old new : List Token) (token : Token) (a : Operand) → old ≡ token ∷ new → token ≡ Name a → Spells 7 old (Leaf a) new
name_read old new token a is which = from_same 7 old (Name a ∷ new) (Leaf a) new (token_is old new token (Name a) is which) (name a new)

pub enclosed_read : (old mid new : List Token) (formula : Formula) → Spells 1 old formula mid → mid ≡ Close ∷ new → Spells 7 (Open ∷ old) formula new
enclosed_read old mid new formula h is = enclosed (up_to_same 1 old formula mid (Close ∷ new) is h)

pub called_read : (combination : Combination) (old first second third fourth new : List Token) (left right : Formula) (r : Result Formula ExpressionFault) →
    old ≡ Open ∷ first → Spells 1 first left second → second ≡ Comma ∷ third → Spells 1 third right fourth → fourth ≡ Close ∷ new →
    IfOk r (λ formula. IsJoined formula left (Combines combination) right) → IfOk r (λ formula. Spells 7 (Call combination ∷ old) formula new)
called_read combination old first second third fourth new left right (Ok formula) opened h parted g closed j =
    from_same 7 (Call combination ∷ old) (Call combination ∷ Open ∷ first) formula new (ap (λ old. Call combination ∷ old) opened)
    (called combination formula (up_to_same 1 first left second (Comma ∷ third) parted h) (up_to_same 1 third right fourth (Close ∷ new) closed g) j)
called_read combination old first second third fourth new left right (Err fault) opened h parted g closed j = tt

pub negative_read : (old mid new : List Token) (inner formula : Formula) → mid ≡ old → Spells 7 mid inner new → IsNegative formula inner → Spells 7 (Operator Minus ∷ old) formula new
negative_read old mid new inner formula is h inner_is = negative formula (from_same 7 old mid inner new (sym is) h) inner_is

pub opposite_read : (old mid new : List Token) (inner formula : Formula) → old ≡ Not ∷ mid → Spells 3 mid inner new → IsNot formula inner → Spells 3 old formula new
opposite_read old mid new inner formula is h inner_is = from_same 3 old (Not ∷ mid) formula new is (opposite formula h inner_is)

pub not_taken : (b : Bool) (loosest : ℕ) (old new : List Token) → b ≡ true → MatchBool b ((loosest ≤ 3) × (old ≡ Not ∷ new)) (new ≡ old) → (loosest ≤ 3) × (old ≡ Not ∷ new)
not_taken true loosest old new is h = h
not_taken false loosest old new is h = absurd cc

-- no more operators
pub ended_read : (loosest level : ℕ) (old mid new : List Token) (formula : Formula) → (loosest ≤ level) × Spells level old formula mid → new ≡ mid → Spells loosest old formula new
ended_read loosest level old mid new formula h is = looser level h.0 (up_to_same level old formula mid new (sym is) h.1)

-- one more operator
pub joined_read : (loosest level n m : ℕ) (old mid behind new : List Token) (left right formula : Formula) (sign : Sign) → Spells level old left mid →
    (mid ≡ Operator sign ∷ behind) × (loosest ≤ level_of sign) × (left_level sign ≤ level) → n ≡ level_of sign → Spells (n + 1) behind right new →
    IsJoined formula left (joining_of sign) right → m ≡ level_of sign → (loosest ≤ m) × Spells m old formula new
joined_read loosest level n m old mid behind new left right formula sign h taken n_is g j m_is =
    let tight = subst (λ n. Spells (n + 1) behind right new) n_is g in
    let all = joined sign formula (looser level taken.2 (up_to_same level old left mid (Operator sign ∷ behind) taken.0 h)) tight j in
    (subst (λ m. loosest ≤ m) (sym m_is) taken.1, subst (λ m. Spells m old formula new) (sym m_is) all)

pub all_read : (old rest : List Token) (formula : Formula) → Spells 1 old formula rest → rest ≡ [] → Spells 1 old formula []
all_read old rest formula h is = up_to_same 1 old formula rest [] is h
