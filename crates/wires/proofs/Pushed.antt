-- Lists with one element more, and pairs of lists.
use Rattle.std.proofs.Common.{◌≡◌, ℕ, suc, zero, ◌⊎◌, inl, inr, List, [], ◌∷◌, ◌++◌, length, drop, slice_get, Some, refl, ap, subst}

-- an element of a list with one more: it is one of the list, or the new one
pub get_pushed : {X : Type 0} (xs : List X) (x y : X) (k : ℕ) → slice_get (xs ++ x ∷ []) k ≡ Some y → (slice_get xs k ≡ Some y) ⊎ ((k ≡ length xs) × (x ≡ y))
get_pushed [] x y zero is = inr (refl, cc)
get_pushed [] x y (suc k) is = let bad : ⊥ = cc in absurd bad
get_pushed (z ∷ zs) x y zero is = inl is
get_pushed (z ∷ zs) x y (suc k) is = elim (get_pushed zs x y k is) [ inl there ↦ inl there | inr last ↦ inr (ap suc last.0, last.1) ]

-- what is left from a place on begins with the element there
pub first_left : {X : Type 0} (xs : List X) (k : ℕ) (x : X) (rest : List X) → drop k xs ≡ x ∷ rest → (slice_get xs k ≡ Some x) × (drop (suc k) xs ≡ rest)
first_left [] zero x rest is = let bad : ⊥ = cc in absurd bad
first_left [] (suc k) x rest is = let bad : ⊥ = cc in absurd bad
first_left (y ∷ ys) zero x rest is = (cc, cc)
first_left (y ∷ ys) (suc k) x rest is = first_left ys k x rest is

-- what holds of each element so far with the one at its place in the other list holds of one more
pub one_pair_more : {X Y : Type 0} (Holds : X → Y → Type 0) (xs after : List X) (x : X) (ys : List Y) (y : Y) (rest : List Y) →
    after ≡ xs ++ x ∷ [] → drop (length xs) ys ≡ y ∷ rest → Holds x y →
    ((k : ℕ) (a : X) (b : Y) → slice_get xs k ≡ Some a → slice_get ys k ≡ Some b → Holds a b) →
    (k : ℕ) (a : X) (b : Y) → slice_get after k ≡ Some a → slice_get ys k ≡ Some b → Holds a b
one_pair_more {X = X} {Y = Y} Holds xs after x ys y rest pushed left own all k a b here there =
    elim (get_pushed xs x a k (rw pushed at here)) [
      | inl old ↦ all k a b old there
      | inr last ↦
          let its = (first_left ys (length xs) y rest left).0 in
          let place : slice_get ys (length xs) ≡ Some b = rw last.0 at there in
          let same : y ≡ b = cc (its, place) in
          let first : Holds a y = subst (λ (c : X). Holds c y) last.1 own in
          subst (λ (c : Y). Holds a c) same first
    ]
