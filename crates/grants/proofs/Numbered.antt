-- Numbers that pass a test: listed, and counted.
use Rattle.std.proofs.Common.{◌≡◌, ℕ, zero, suc, ◌+◌, ◌<◌, ◌≤◌, Bool, true, false, [], ◌∷◌, length, refl, ap, ◌∙◌, arith, length-append, inl, inr}
use Rattle.std.specs.Prelude.{nat_eq, if◌then◌else◌, ◌||◌, All}
use Rattle.std.proofs.lemmas.Bool.{cases_eq, ne_eqb}
use Rattle.std.proofs.lemmas.Bool.Decides.{nat_tests}
use Rattle.std.proofs.lemmas.List.Elements.{All-nil, All-cons, All-append, All-weaker}
use Rattle.grants.specs.Looks.{count_below}
use Rattle.grants.specs.Routes.{listed_below}

one_more : (b : Bool) (n : ℕ) → length (if b then n ∷ [] else []) ≡ (if b then 1 else 0)
one_more true n = refl
one_more false n = refl

-- as many are listed as are counted
pub length_listed : (count : ℕ) (test : ℕ → Bool) → length (listed_below count test) ≡ count_below count test
length_listed zero test = refl
length_listed (suc count) test =
    length-append (listed_below count test) (if test count then count ∷ [] else [])
    ∙ ap (λ n. n + length (if test count then count ∷ [] else [])) (length_listed count test)
    ∙ ap (λ n. count_below count test + n) (one_more (test count) count)

-- all that are listed are below
one_below : (count : ℕ) (b : Bool) → All (λ j. j < suc count) (if b then count ∷ [] else [])
one_below count true = All-cons (λ j. j < suc count) count [] (omega arith) (All-nil (λ j. j < suc count))
one_below count false = All-nil (λ j. j < suc count)

pub listed_are_below : (count : ℕ) (test : ℕ → Bool) → All (λ j. j < count) (listed_below count test)
listed_are_below zero test = All-nil (λ j. j < 0)
listed_are_below (suc count) test =
    All-append (λ j. j < suc count) (listed_below count test) (if test count then count ∷ [] else [])
    (All-weaker (λ j. j < count) (λ j. j < suc count) (λ j l. omega arith) (listed_below count test) (listed_are_below count test)) (one_below count (test count))

weaker_one : (p q : Bool) → (p ≡ true → q ≡ true) → (if p then 1 else 0) ≤ (if q then 1 else 0)
weaker_one true true h = omega arith
weaker_one true false h = let none = h refl in cc
weaker_one false q h = omega arith

-- where each that passes one test passes another, no more pass the one
pub count_weaker : (count : ℕ) (p q : ℕ → Bool) → ((j : ℕ) → p j ≡ true → q j ≡ true) → count_below count p ≤ count_below count q
count_weaker zero p q h = omega arith
count_weaker (suc count) p q h = let rest = count_weaker count p q h in let here = weaker_one (p count) (q count) (h count) in omega arith

count_none : (count i : ℕ) → count ≤ i → count_below count (λ j. nat_eq j i) ≡ 0
count_none zero i l = refl
count_none (suc count) i l =
    ap (λ b. count_below count (λ j. nat_eq j i) + (if b then 1 else 0)) (ne_eqb count i (λ same. absurd (omega arith)))
    ∙ ap (λ n. n + 0) (count_none count i (omega arith))

next_one : (n : ℕ) (b : Bool) → n ≡ 0 → n + (if b then 1 else 0) ≤ 1
next_one n true e = omega arith
next_one n false e = omega arith

none_next : (n : ℕ) (b : Bool) → n ≤ 1 → b ≡ false → n + (if b then 1 else 0) ≤ 1
none_next n true l e = cc
none_next n false l e = omega arith

pub count_one : (count i : ℕ) → count_below count (λ j. nat_eq j i) ≤ 1
count_one zero i = omega arith
count_one (suc count) i =
    elim (cases_eq count i) [
      | inl e ↦ next_one (count_below count (λ j. nat_eq j i)) (nat_eq count i) (count_none count i (omega arith))
      | inr n ↦ none_next (count_below count (λ j. nat_eq j i)) (nat_eq count i) (count_one count i) (ne_eqb count i n)
    ]

either_counts : (p q : Bool) → (if p || q then 1 else 0) ≤ (if p then 1 else 0) + (if q then 1 else 0)
either_counts true q = omega arith
either_counts false q = omega arith

pub count_either : (count : ℕ) (p q : ℕ → Bool) → count_below count (λ j. p j || q j) ≤ count_below count p + count_below count q
count_either zero p q = omega arith
count_either (suc count) p q = let rest = count_either count p q in let here = either_counts (p count) (q count) in omega arith
