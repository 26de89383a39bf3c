-- A text has its parts at most once: its longest front of digits, the spaces after it, and what is left.
use Rattle.std.proofs.Common.{◌≡◌, ℕ, zero, suc, ◌+◌, ◌*◌, ◌<◌, ◌==◌, inl, inr, Bool, true, false, cond, ◌&&◌, IsTrue, List, [], ◌∷◌, ◌++◌, length, get_or, take, drop, replicate, codes, refl, sym, ap, ◌∙◌, subst, arith, one-add}
use Rattle.std.specs.Char.{is_ascii_digit}
use Rattle.std.specs.List.{prefix_len, list_all}
use Rattle.std.specs.Str.{all_ascii_digits}
use Rattle.std.specs.Str.Parse.{digits_value}
use Rattle.std.proofs.lemmas.List.{take-append-drop}
use Rattle.std.proofs.lemmas.Bool.{and_parts}
use Rattle.std.proofs.lemmas.Bool.Decides.{nat_tests}
use Rattle.std.proofs.Math.Seq.{take-append_seam, drop-append_seam}
use Rattle.tag_text.specs.Duration.{IsUnit, HasParts}

abbrev pub is_space : ℕ → Bool
is_space b = b == 32

-- the longest front that passes passes
passing_step : (p : ℕ → Bool) (x : ℕ) (xs : List ℕ) (b : Bool) → p x ≡ b → list_all p (take (prefix_len p xs) xs) ≡ true → list_all p (take (cond b (1 + prefix_len p xs) 0) (x ∷ xs)) ≡ true
passing_step p x xs true e h = rw (one-add, e) h
passing_step p x xs false e h = refl

pub passing_front : (p : ℕ → Bool) (xs : List ℕ) → list_all p (take (prefix_len p xs) xs) ≡ true
passing_front p [] = refl
passing_front p (x ∷ xs) = passing_step p x xs (p x) refl (passing_front p xs)

-- the longest front of spaces is spaces
spaces_step : (x : ℕ) (xs : List ℕ) (b : Bool) → is_space x ≡ b → take (prefix_len is_space xs) xs ≡ replicate (prefix_len is_space xs) 32 → take (cond b (1 + prefix_len is_space xs) 0) (x ∷ xs) ≡ replicate (cond b (1 + prefix_len is_space xs) 0) 32
spaces_step x xs true e h = rw one-add (ap (λ y. y ∷ take (prefix_len is_space xs) xs) (grind (arith, nat_tests)) ∙ ap (λ ys. 32 ∷ ys) h)
spaces_step x xs false e h = refl

pub spaces_front : (xs : List ℕ) → take (prefix_len is_space xs) xs ≡ replicate (prefix_len is_space xs) 32
spaces_front [] = refl
spaces_front (x ∷ xs) = spaces_step x xs (is_space x) refl (spaces_front xs)

-- where all pass and what follows begins with none that does, that is the longest front
front_exact : (p : ℕ → Bool) (xs ys : List ℕ) → list_all p xs ≡ true → p (get_or ys 0 0) ≡ false → prefix_len p (xs ++ ys) ≡ length xs
front_exact p [] [] a f = refl
front_exact p [] (y ∷ ys) a f = rw f refl
front_exact p (x ∷ xs) ys a f =
    let both = and_parts (p x) (list_all p xs) a in
    let first : p x ≡ true = both.0 in
    rw (first, one-add) (ap (λ n. suc n) (front_exact p xs ys both.1 f))

digits_listed : (ds : List ℕ) → all_ascii_digits ds ≡ list_all is_ascii_digit ds
digits_listed [] = refl
digits_listed (c ∷ cs) = ap (λ r. is_ascii_digit c && r) (digits_listed cs)

spaces_pass : (n : ℕ) → list_all is_space (replicate n 32) ≡ true
spaces_pass zero = refl
spaces_pass (suc n) = spaces_pass n

-- what a unit's name begins with tells the unit
abbrev unit_by_first : ℕ → ℕ
unit_by_first c = cond (c == 110) 1 (cond (c == 117) 1_000 (cond (c == 109) 1_000_000 1_000_000_000))

record IsTold (name : List ℕ) (unit : ℕ) : Type 0 where
  no_digit : is_ascii_digit (get_or name 0 0) ≡ false
  no_space : is_space (get_or name 0 0) ≡ false
  unit_is : unit ≡ unit_by_first (get_or name 0 0)
  positive : 0 < unit
  some : 0 < length name

told_at : (name text : List ℕ) (unit n : ℕ) → name ≡ text → unit ≡ n → IsTold text n → IsTold name unit
told_at name text unit n e f t =
    let P : List ℕ → Type 0 = λ x. IsTold x unit in
    let Q : ℕ → Type 0 = λ x. IsTold text x in
    subst P (sym e) (subst Q (sym f) t)

told : (name : List ℕ) (unit : ℕ) → IsUnit name unit → IsTold name unit
told name unit (inl (inl e, f)) = told_at _ (codes "ns") _ 1 e f (record { no_digit = refl; no_space = refl; unit_is = refl; positive = omega arith; some = omega arith })
told name unit (inl (inr e, f)) = told_at _ (codes "nsec") _ 1 e f (record { no_digit = refl; no_space = refl; unit_is = refl; positive = omega arith; some = omega arith })
told name unit (inr (inl (inl e, f))) = told_at _ (codes "us") _ 1_000 e f (record { no_digit = refl; no_space = refl; unit_is = refl; positive = omega arith; some = omega arith })
told name unit (inr (inl (inr e, f))) = told_at _ (codes "usec") _ 1_000 e f (record { no_digit = refl; no_space = refl; unit_is = refl; positive = omega arith; some = omega arith })
told name unit (inr (inr (inl (inl e, f)))) = told_at _ (codes "ms") _ 1_000_000 e f (record { no_digit = refl; no_space = refl; unit_is = refl; positive = omega arith; some = omega arith })
told name unit (inr (inr (inl (inr e, f)))) = told_at _ (codes "msec") _ 1_000_000 e f (record { no_digit = refl; no_space = refl; unit_is = refl; positive = omega arith; some = omega arith })
told name unit (inr (inr (inr (inl e, f)))) = told_at _ (codes "s") _ 1_000_000_000 e f (record { no_digit = refl; no_space = refl; unit_is = refl; positive = omega arith; some = omega arith })
told name unit (inr (inr (inr (inr e, f)))) = told_at _ (codes "sec") _ 1_000_000_000 e f (record { no_digit = refl; no_space = refl; unit_is = refl; positive = omega arith; some = omega arith })

no_digit_after_spaces : (n : ℕ) (name : List ℕ) → is_ascii_digit (get_or name 0 0) ≡ false → is_ascii_digit (get_or (replicate n 32 ++ name) 0 0) ≡ false
no_digit_after_spaces zero name h = h
no_digit_after_spaces (suc n) name h = refl

-- the digits in front, what follows them, and what follows the spaces there
abbrev pub digits_in : List ℕ → List ℕ
digits_in text = take (prefix_len is_ascii_digit text) text

abbrev pub after_digits : List ℕ → List ℕ
after_digits text = drop (prefix_len is_ascii_digit text) text

abbrev pub after_spaces : List ℕ → List ℕ
after_spaces rest = drop (prefix_len is_space rest) rest

pub parts_found : (text : List ℕ) (unit : ℕ) → IsUnit (after_spaces (after_digits text)) unit → 0 < length (digits_in text) → HasParts text (digits_in text) unit
parts_found text unit u some =
    let rest = after_digits text in
    record {
      spaces = prefix_len is_space rest;
      name = after_spaces rest;
      text_is = sym (ap (λ s. digits_in text ++ (s ++ after_spaces rest)) (sym (spaces_front rest)) ∙ ap (λ r. digits_in text ++ r) (take-append-drop (prefix_len is_space rest) rest) ∙ take-append-drop (prefix_len is_ascii_digit text) text);
      some_digits = some;
      digits_are = digits_listed (digits_in text) ∙ passing_front is_ascii_digit text;
      unit_is = u;
    }

-- where they are, once the text is written out
record IsSplit (text digits rest name : List ℕ) : Type 0 where
  digits_at : digits_in text ≡ digits
  rest_at : after_digits text ≡ rest
  name_at : after_spaces rest ≡ name

split_written : (digits name : List ℕ) (n unit : ℕ) → IsTrue (all_ascii_digits digits) → IsUnit name unit → IsSplit (digits ++ (replicate n 32 ++ name)) digits (replicate n 32 ++ name) name
split_written digits name n unit a u =
    let t = told name unit u in
    let rest = replicate n 32 ++ name in
    let front = front_exact is_ascii_digit digits rest (sym (digits_listed digits) ∙ a) (no_digit_after_spaces n name t.no_digit) in
    let blank = front_exact is_space (replicate n 32) name (spaces_pass n) t.no_space in
    record {
      digits_at = ap (λ k. take k (digits ++ rest)) front ∙ take-append_seam digits rest;
      rest_at = ap (λ k. drop k (digits ++ rest)) front ∙ drop-append_seam digits rest;
      name_at = ap (λ k. drop k rest) blank ∙ drop-append_seam (replicate n 32) name;
    }

pub parts_digits : (text digits : List ℕ) (unit : ℕ) → HasParts text digits unit → digits_in text ≡ digits
parts_digits text digits unit p =
    let s = split_written digits p.name p.spaces unit p.digits_are p.unit_is in
    ap digits_in p.text_is ∙ s.digits_at

pub parts_unit : (text digits : List ℕ) (unit : ℕ) → HasParts text digits unit → IsUnit (after_spaces (after_digits text)) unit
parts_unit text digits unit p =
    let s = split_written digits p.name p.spaces unit p.digits_are p.unit_is in
    let at : after_spaces (after_digits text) ≡ p.name = ap (λ t. after_spaces (after_digits t)) p.text_is ∙ ap after_spaces s.rest_at ∙ s.name_at in
    let P : List ℕ → Type 0 = λ x. IsUnit x unit in
    subst P (sym at) p.unit_is

pub unit_positive : (text digits : List ℕ) (unit : ℕ) → HasParts text digits unit → 0 < unit
unit_positive text digits unit p = (told p.name unit p.unit_is).positive

pub name_some : (name : List ℕ) (unit : ℕ) → IsUnit name unit → 0 < length name
name_some name unit u = (told name unit u).some

pub same_unit : (text ds es : List ℕ) (u v : ℕ) → HasParts text ds u → HasParts text es v → u ≡ v
same_unit text ds es u v p q =
    (told _ u (parts_unit text ds u p)).unit_is ∙ sym (told _ v (parts_unit text es v q)).unit_is

pub same_value : (text ds es : List ℕ) (u v : ℕ) → HasParts text ds u → HasParts text es v → digits_value 10 ds * u ≡ digits_value 10 es * v
same_value text ds es u v p q =
    let d : ds ≡ es = sym (parts_digits text ds u p) ∙ parts_digits text es v q in
    ap (λ x. digits_value 10 x * u) d ∙ ap (λ x. digits_value 10 es * x) (same_unit text ds es u v p q)
