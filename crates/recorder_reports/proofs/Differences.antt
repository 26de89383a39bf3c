-- Two lists that are the same up to a place.
use Rattle.std.proofs.Common.{◌≡◌, ◌≢◌, ℕ, suc, ◌<◌, ◌≤◌, List, [], ◌∷◌, length, ◌∙◌, refl, sym, arith, ◌⊎◌, inl, inr, None, Some}
use Rattle.std.specs.Prelude.{slice_get, min, get_or}
use Rattle.std.proofs.lemmas.Option.{slice_get_cases}

-- two lists of one length that are the same at each place are the same
pub same_at_each : {X : Type 0} (xs ys : List X) → length xs ≡ length ys → ((k : ℕ) → k < length xs → slice_get xs k ≡ slice_get ys k) → xs ≡ ys
same_at_each [] [] len same = refl
same_at_each [] (y ∷ ys) len same = absurd (grind arith)
same_at_each (x ∷ xs) [] len same = absurd (grind arith)
same_at_each (x ∷ xs) (y ∷ ys) len same =
    let first : Some x ≡ Some y = same 0 (omega arith) in
    let rest = same_at_each xs ys (omega arith) (λ k less. same (suc k) (omega arith)) in
    grind (arith, first, rest)

-- at the end of the shorter one of two lists, they differ
pub apart_after : {X : Type 0} (xs ys : List X) (n : ℕ) → n ≡ min (length xs) (length ys) → length xs ≢ length ys → slice_get xs n ≢ slice_get ys n
apart_after xs ys n is len e = both (slice_get_cases xs n).1 (slice_get_cases ys n).1
  where
    both : ((x : _) × (n < length xs) × (slice_get xs n ≡ Some x) × (get_or xs n x ≡ x)) ⊎ ((length xs ≤ n) × (slice_get xs n ≡ None)) →
        ((y : _) × (n < length ys) × (slice_get ys n ≡ Some y) × (get_or ys n y ≡ y)) ⊎ ((length ys ≤ n) × (slice_get ys n ≡ None)) → ⊥
    both (inl (x, below, there, same)) (inl (y, under, other, too)) = omega arith
    both (inl (x, below, there, same)) (inr (past, none)) = let no : Some x ≡ None = sym there ∙ e ∙ none in cc
    both (inr (past, none)) (inl (y, under, there, same)) = let no : Some y ≡ None = sym there ∙ sym e ∙ none in cc
    both (inr (past, none)) (inr (over, neither)) = len (omega arith)
