-- Where braces stand in a text, and what a text becomes, from the front on.
use Rattle.std.proofs.Common.{◌≡◌, inl, inr, ℕ, true, false, ◌+◌, ◌<◌, ◌≤◌, List, [], ◌∷◌, ◌++◌, length, take, drop, get_or, refl, sym, ap, ◌∙◌, subst, arith}
use Rattle.std.specs.Prelude.{Result, Ok, Err, OnOk}
use Rattle.std.specs.List.{prefix_len}
use Rattle.std.proofs.lemmas.List.{take-append-drop, append_assoc, append-nil, take_more, take_all}
use Rattle.tag_text.proofs.Parts.{passing_front}
use Rattle.reactor_program.proofs.Splitting.{stops}
use Rattle.expand_expressions.specs.declared.known.NamedOperand.{NamedOperand}
use Rattle.expand_source.specs.declared.token.Token.{Token}
use Rattle.expand_source.specs.Expansion.{is_plain, IsPlain, is_alone, IsNextHole, IsNumber, IsFilled, as_it_is, in_braces, IsQuotedFilled, IsTokenFilled, AreFilled}
use Rattle.expand_source.specs.Filling.{IsPlainFront, Appends}

pub plain_in_front : (text : List ℕ) → IsPlainFront text (take (prefix_len is_plain text) text) (drop (prefix_len is_plain text) text)
plain_in_front text =
    let n = prefix_len is_plain text in
    (sym (take-append-drop n text), passing_front is_plain text, stops is_plain text)

nothing : (text : List ℕ) → length text ≡ 0 → text ≡ []
nothing [] h = refl
nothing (x ∷ xs) h = absurd (omega (arith, h))

pub no_hole : (text front behind : List ℕ) → IsPlainFront text front behind → length behind ≡ 0 → IsPlain text
no_hole text front behind h none =
    subst IsPlain (sym (h.0 ∙ ap (λ rest. front ++ rest) (nothing behind none) ∙ append-nil front)) h.1

pub next_hole_is : (text front behind inside expression after rest : List ℕ) → IsPlainFront text front behind → behind ≡ 123 ∷ inside
    → IsPlainFront inside expression after → after ≡ 125 ∷ rest → IsNextHole text front expression rest
next_hole_is text front behind inside expression after rest h opens k closes =
    (h.0 ∙ ap (λ r. front ++ r) (opens ∙ ap (λ r. 123 ∷ r) (k.0 ∙ ap (λ r. expression ++ r) closes)), h.1, k.1)

-- what is so where a call answers, once it follows from what that call says
pub answered : {X E P Q : Type 0} (r : Result X E) → (P → Q) → OnOk r P → OnOk r Q
answered (Ok x) follows h = follows h
answered (Err e) follows h = h

-- something that is added, behind what was added before
pub both_added : (old a b first second : List ℕ) → a ≡ old ++ first → b ≡ a ++ second → b ≡ old ++ (first ++ second)
both_added old a b first second one two = two ∙ ap (λ x. x ++ second) one ∙ append_assoc old first second

pub filled_as_it_is : (names : List NamedOperand) (template old new : List ℕ) → IsPlain template → new ≡ old ++ template → Appends old new (IsFilled names template)
filled_as_it_is names template old new plain is = (template, is, as_it_is template plain)

pub hole_filled : (names : List NamedOperand) (template front expression rest old a b new : List ℕ) → IsNextHole template front expression rest
    → a ≡ old ++ front → Appends a b (IsNumber names expression) → Appends b new (IsFilled names rest) → Appends old new (IsFilled names template)
hole_filled names template front expression rest old a b new hole first number behind =
    let whole : IsFilled names (front ++ (123 ∷ (expression ++ (125 ∷ rest)))) (front ++ (number.0 ++ behind.0)) =
    in_braces front expression rest number.0 behind.0 hole.1 hole.2 number.2 behind.2 in (
      front ++ (number.0 ++ behind.0),
      both_added old a new front (number.0 ++ behind.0) first (both_added a b new number.0 behind.0 number.1 behind.1),
      subst (λ t. IsFilled names t (front ++ (number.0 ++ behind.0))) (sym hole.0) whole,
    )

pub quoted_as_it_is : (names : List NamedOperand) (quoted old new : List ℕ) → IsPlain quoted → new ≡ old ++ quoted → Appends old new (IsQuotedFilled names quoted)
quoted_as_it_is names quoted old new plain is = (quoted, is, inl (plain, refl))

pub quoted_number : (names : List NamedOperand) (quoted front expression rest old new : List ℕ) → IsNextHole quoted front expression rest → is_alone front rest ≡ true
    → Appends old new (IsNumber names expression) → Appends old new (IsQuotedFilled names quoted)
quoted_number names quoted front expression rest old new hole alone number =
    (number.0, number.1, inr (front, expression, rest, hole, inl (alone, number.2)))

pub quoted_filled : (names : List NamedOperand) (quoted front expression rest old new : List ℕ) → IsNextHole quoted front expression rest → is_alone front rest ≡ false
    → Appends old new (IsFilled names quoted) → Appends old new (IsQuotedFilled names quoted)
quoted_filled names quoted front expression rest old new hole alone filled =
    (filled.0, filled.1, inr (front, expression, rest, hole, inr (alone, filled.2)))

-- one more token
filled_behind : (names : List NamedOperand) (tokens : List Token) (token : Token) (first text : List ℕ) → AreFilled names tokens first → IsTokenFilled names token.kind token.text.now text
    → AreFilled names (tokens ++ token ∷ []) (first ++ text)
filled_behind names [] token first text h k = (text, [], ap (λ x. x ++ text) h ∙ sym (append-nil text), k, refl)
filled_behind names (other ∷ tokens) token first text h k =
    (h.0, h.1 ++ text, ap (λ x. x ++ text) h.2 ∙ append_assoc h.0 h.1 text, h.3, filled_behind names tokens token h.1 text h.4 k)

pub none_filled : (names : List NamedOperand) (old now : List ℕ) → now ≡ old → Appends old now (AreFilled names [])
none_filled names old now same = ([], same ∙ sym (append-nil old), refl)

pub filled_more : (names : List NamedOperand) (tokens : List Token) (i : ℕ) (other : Token) (old now new : List ℕ) → i < length tokens
    → Appends old now (AreFilled names (take i tokens)) → Appends now new (IsTokenFilled names (get_or tokens i other).kind (get_or tokens i other).text.now)
    → Appends old new (AreFilled names (take (i + 1) tokens))
filled_more names tokens i other old now new low so_far this = (
  so_far.0 ++ this.0,
  both_added old now new so_far.0 this.0 so_far.1 this.1,
  subst (λ ts. AreFilled names ts (so_far.0 ++ this.0)) (sym (take_more tokens i other low))
      (filled_behind names (take i tokens) (get_or tokens i other) so_far.0 this.0 so_far.2 this.2),
)

pub all_filled : (names : List NamedOperand) (tokens : List Token) (i : ℕ) (old new : List ℕ) → length tokens ≤ i → Appends old new (AreFilled names (take i tokens)) → Appends old new (AreFilled names tokens)
all_filled names tokens i old new all h = subst (λ ts. Appends old new (AreFilled names ts)) (take_all i tokens all) h
