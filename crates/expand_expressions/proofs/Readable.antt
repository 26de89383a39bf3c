-- What a text is read as reads no free state, where no name stands for one, and its numbers have 64 bits.
use Rattle.std.proofs.Common.{◌≡◌, ℕ, ℤ, pos, inl, inr, Bool, true, false, cond, lit<, List, [], ◌∷◌, Option, None, Some, refl, sym, ap, ◌∙◌, subst, w64, FitsSigned}
use Rattle.std.specs.Option.{option_map}
use Rattle.std.specs.List.{find}
use Rattle.std.specs.Str.{bytes_eq}
use Rattle.std.proofs.lemmas.List.Elements.{All-head, All-tail}
use Rattle.reactor_program.specs.declared.program.Operand.{Operand}
use Rattle.reactor_program.specs.declared.program.Operand.TheVariants.{Number, State, Value, Presence}
use Rattle.reactor.specs.Effect.{operand_value}
use Rattle.expand_expressions.specs.declared.formula.Formula.{Formula}
use Rattle.expand_expressions.specs.declared.formula.Formula.TheVariants.{Leaf, Negative', Not', Combined', Quotient', Remainder'}
use Rattle.expand_expressions.specs.declared.known.NamedOperand.{NamedOperand}
use Rattle.expand_expressions.specs.declared.token.Joining.{Joining}
use Rattle.expand_expressions.specs.declared.token.Joining.TheVariants.{Combines, Divides, Leaves}
use Rattle.expand_expressions.specs.declared.token.Token.{Token}
use Rattle.expand_expressions.specs.declared.token.Token.TheVariants.{Digits, Name, Operator, Not, Call, Open, Close, Comma}
use Rattle.expand_expressions.specs.Meaning.{value_of, IsOperandWithin, IsOperandBelow, IsWithin, IsBelow, AreWithin, IsReadable, IsOperandReadable}
use Rattle.expand_expressions.specs.Grammar.{IsKnown, joining_of, IsJoined, IsNegative, IsNot, Spells, looser, digits, lower_digits, name, enclosed, called, negative, opposite, joined}
use Rattle.expand_expressions.specs.Reading.{operand_named, AreReadable, IsAtSlot, StandsFor, IsTokenText, HasTokens, Reads}
use Rattle.expand_expressions.proofs.FormulaLines.{value_fits}

-- operands of tokens
abbrev IsTokenReadable : ℕ → Token → Type 0
IsTokenReadable free (Digits n) = Unit {0}
IsTokenReadable free (Name a) = IsOperandReadable free a
IsTokenReadable free (Operator sign) = Unit {0}
IsTokenReadable free Not = Unit {0}
IsTokenReadable free (Call combination) = Unit {0}
IsTokenReadable free Open = Unit {0}
IsTokenReadable free Close = Unit {0}
IsTokenReadable free Comma = Unit {0}

abbrev AreTokensReadable : ℕ → List Token → Type 0
AreTokensReadable free [] = Unit {0}
AreTokensReadable free (token ∷ tokens) = IsTokenReadable free token × AreTokensReadable free tokens

some_is : {X : Type 0} (x y : X) → Some x ≡ Some y → x ≡ y
some_is x y is = cc

found_step : (free : ℕ) (known : NamedOperand) (rest : List NamedOperand) (word : List ℕ) (a : Operand) (b : Bool) → IsOperandReadable free known.operand →
    (operand_named rest word ≡ Some a → IsOperandReadable free a) → option_map (λ k. k.operand) (cond b (Some known) (find (λ k. bytes_eq k.name word) rest)) ≡ Some a → IsOperandReadable free a
found_step free known rest word a true first others is = subst (λ a. IsOperandReadable free a) (some_is known.operand a is) first
found_step free known rest word a false first others is = others is

named_readable : (free : ℕ) (operands : List NamedOperand) (word : List ℕ) (a : Operand) → AreReadable free operands → operand_named operands word ≡ Some a → IsOperandReadable free a
named_readable free [] word a all is = absurd cc
named_readable free (known ∷ rest) word a all is =
    found_step free known rest word a (bytes_eq known.name word) (All-head (λ k. IsOperandReadable free k.operand) known rest all)
    (named_readable free rest word a (All-tail (λ k. IsOperandReadable free k.operand) known rest all)) is

slot_readable : (free : ℕ) (readable : List (List ℕ)) (word : List ℕ) (a : Operand) → IsAtSlot readable word a → IsOperandReadable free a
slot_readable free readable word (Number n) h = elim h [ ]
slot_readable free readable word (State k) h = elim h [ ]
slot_readable free readable word (Value slot) h = (tt, tt)
slot_readable free readable word (Presence slot) h = (tt, tt)

operand_readable : (free : ℕ) (operands : List NamedOperand) (readable : List (List ℕ)) (word : List ℕ) (a : Operand) → AreReadable free operands → StandsFor operands readable word a → IsOperandReadable free a
operand_readable free operands readable word a all (inl h) = slot_readable free readable word a h
operand_readable free operands readable word a all (inr h) = named_readable free operands word a all h

token_readable : (free : ℕ) (operands : List NamedOperand) (readable : List (List ℕ)) (word : List ℕ) (token : Token) → AreReadable free operands → IsTokenText operands readable token word → IsTokenReadable free token
token_readable free operands readable word (Digits n) all h = tt
token_readable free operands readable word (Name a) all h = operand_readable free operands readable word a all h
token_readable free operands readable word (Operator sign) all h = tt
token_readable free operands readable word Not all h = tt
token_readable free operands readable word (Call combination) all h = tt
token_readable free operands readable word Open all h = tt
token_readable free operands readable word Close all h = tt
token_readable free operands readable word Comma all h = tt

tokens_readable : (free : ℕ) (operands : List NamedOperand) (readable : List (List ℕ)) (text : List ℕ) (tokens : List Token) → AreReadable free operands → HasTokens operands readable text tokens → AreTokensReadable free tokens
tokens_readable free operands readable text [] all h = tt
tokens_readable free operands readable text (token ∷ tokens) all h =
    (token_readable free operands readable h.3.0 token all h.3.3, tokens_readable free operands readable h.1 tokens all h.4)

zero_fits : FitsSigned w64 (pos 0)
zero_fits = record { sfits = lit< tt }

nothing_within : AreWithin [] (λ slot. None)
nothing_within (Number n) h = h
nothing_within (State k) h = zero_fits
nothing_within (Value slot) h = zero_fits
nothing_within (Presence slot) h = zero_fits

known_fits : (formula : Formula) (n : ℤ) → IsKnown formula n → IsWithin formula → FitsSigned w64 n
known_fits formula n known within = subst (λ n. FitsSigned w64 n) (known [] (λ slot. None)) (value_fits formula [] (λ slot. None) nothing_within within)

joined_readable : (free : ℕ) (formula left : Formula) (joining : Joining) (right : Formula) → IsJoined formula left joining right → IsReadable free left → IsReadable free right → IsReadable free formula
joined_readable free (Combined' p x c q y) left (Combines which) right j l r =
    let first = subst (λ f. IsReadable free f) (sym j.0) l in
    let second = subst (λ f. IsReadable free f) (sym j.2) r in
    ((first.0, second.0), (first.1, second.1))
joined_readable free (Quotient' p x d) left Divides right j l r =
    let first = subst (λ f. IsReadable free f) (sym j.0) l in
    (first.0, (first.1, known_fits right d j.1 r.1))
joined_readable free (Remainder' p x d) left Leaves right j l r =
    let first = subst (λ f. IsReadable free f) (sym j.0) l in
    (first.0, (first.1, known_fits right d j.1 r.1))
joined_readable free (Combined' p x c q y) left Divides right j l r = elim j [ ]
joined_readable free (Combined' p x c q y) left Leaves right j l r = elim j [ ]
joined_readable free (Quotient' p x d) left (Combines which) right j l r = elim j [ ]
joined_readable free (Quotient' p x d) left Leaves right j l r = elim j [ ]
joined_readable free (Remainder' p x d) left (Combines which) right j l r = elim j [ ]
joined_readable free (Remainder' p x d) left Divides right j l r = elim j [ ]
joined_readable free (Leaf a) left joining right j l r = elim j [ ]
joined_readable free (Negative' p x) left joining right j l r = elim j [ ]
joined_readable free (Not' p x) left joining right j l r = elim j [ ]

negative_readable : (free : ℕ) (formula inner : Formula) → IsNegative formula inner → IsReadable free inner → IsReadable free formula
negative_readable free (Negative' p x) inner is h = subst (λ f. IsReadable free f) (sym is) h
negative_readable free (Leaf a) inner is h = elim is [ ]
negative_readable free (Not' p x) inner is h = elim is [ ]
negative_readable free (Combined' p x c q y) inner is h = elim is [ ]
negative_readable free (Quotient' p x d) inner is h = elim is [ ]
negative_readable free (Remainder' p x d) inner is h = elim is [ ]

not_readable : (free : ℕ) (formula inner : Formula) → IsNot formula inner → IsReadable free inner → IsReadable free formula
not_readable free (Not' p x) inner is h = subst (λ f. IsReadable free f) (sym is) h
not_readable free (Leaf a) inner is h = elim is [ ]
not_readable free (Negative' p x) inner is h = elim is [ ]
not_readable free (Combined' p x c q y) inner is h = elim is [ ]
not_readable free (Quotient' p x d) inner is h = elim is [ ]
not_readable free (Remainder' p x d) inner is h = elim is [ ]

spelled_readable : (free : ℕ) {level : ℕ} {old new : List Token} {formula : Formula} → Spells level old formula new → AreTokensReadable free old → IsReadable free formula × AreTokensReadable free new
spelled_readable free (looser tighter le h) all = spelled_readable free h all
spelled_readable free (digits n new fits) all = ((tt, fits), all.1)
spelled_readable free (lower_digits n new fits) all = ((tt, fits), all.1.1)
spelled_readable free (name a new) all = (all.0, all.1)
spelled_readable free (enclosed h) all = let inner = spelled_readable free h all.1 in (inner.0, inner.1.1)
spelled_readable free (called {left = left} {right = right} combination formula h g j) all =
    let first = spelled_readable free h all.1.1 in
    let second = spelled_readable free g first.1.1 in
    (joined_readable free formula left (Combines combination) right j first.0 second.0, second.1.1)
spelled_readable free (negative {inner = inner} formula h is) all =
    let first = spelled_readable free h all.1 in
    (negative_readable free formula inner is first.0, first.1)
spelled_readable free (opposite {inner = inner} formula h is) all =
    let first = spelled_readable free h all.1 in
    (not_readable free formula inner is first.0, first.1)
spelled_readable free (joined {left = left} {right = right} sign formula h g j) all =
    let first = spelled_readable free h all in
    let second = spelled_readable free g first.1.1 in
    (joined_readable free formula left (joining_of sign) right j first.0 second.0, second.1)

pub read_readable : (operands : List NamedOperand) (readable : List (List ℕ)) (text : List ℕ) (formula : Formula) (free : ℕ) → Reads operands readable text formula → AreReadable free operands → IsReadable free formula
read_readable operands readable text formula free h all = (spelled_readable free h.2 (tokens_readable free operands readable text h.0 all h.1)).0
