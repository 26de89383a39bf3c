-- What stands at a place of a list, and what is left from there on.
use Rattle.std.proofs.Common.{◌≡◌, ℕ, zero, suc, ◌+◌, ◌<◌, ◌≤◌, List, [], ◌∷◌, ◌++◌, length, take, drop, refl, sym, ap, ◌∙◌, arith, Some}
use Rattle.std.specs.Prelude.{slice_get}

-- what stands behind a list
pub get_seam : {X : Type 0} (xs : List X) (y : X) (ys : List X) (k : ℕ) → k ≡ length xs → slice_get (xs ++ y ∷ ys) k ≡ Some y
get_seam [] y ys zero e = refl
get_seam [] y ys (suc k) e = absurd (omega arith)
get_seam (x ∷ xs) y ys zero e = absurd (omega arith)
get_seam (x ∷ xs) y ys (suc k) e = get_seam xs y ys k (omega arith)

-- what stands in a list stands there as it grows
pub get_more : {X : Type 0} (xs ys : List X) (k : ℕ) (x : X) → slice_get xs k ≡ Some x → slice_get (xs ++ ys) k ≡ Some x
get_more [] ys k x e = cc
get_more (y ∷ xs) ys zero x e = e
get_more (y ∷ xs) ys (suc k) x e = get_more xs ys k x e

-- what is left from a place on begins with what stands there
pub drop_at : {X : Type 0} (xs : List X) (k : ℕ) (x : X) → slice_get xs k ≡ Some x → drop k xs ≡ x ∷ drop (suc k) xs
drop_at [] k x e = cc
drop_at (y ∷ xs) zero x e = let same : y ≡ x = cc in ap (λ z. z ∷ xs) same
drop_at (y ∷ xs) (suc k) x e = drop_at xs k x e

pub get_below : {X : Type 0} (xs : List X) (k : ℕ) (x : X) → slice_get xs k ≡ Some x → k < length xs
get_below [] k x e = cc
get_below (y ∷ xs) zero x e = omega arith
get_below (y ∷ xs) (suc k) x e = let h = get_below xs k x e in omega arith

-- what stands in front of a place stays as more follows
pub take_more : {X : Type 0} (k : ℕ) (xs ys : List X) → k ≤ length xs → take k (xs ++ ys) ≡ take k xs
take_more zero xs ys l = refl
take_more (suc k) [] ys l = absurd (omega arith)
take_more (suc k) (x ∷ xs) ys l = ap (λ z. x ∷ z) (take_more k xs ys (omega arith))

-- one more place
pub take_next : {X : Type 0} (k : ℕ) (xs : List X) (x : X) → slice_get xs k ≡ Some x → take (suc k) xs ≡ take k xs ++ x ∷ []
take_next k [] x e = cc
take_next zero (y ∷ xs) x e = let same : y ≡ x = cc in ap (λ z. z ∷ []) same
take_next (suc k) (y ∷ xs) x e = ap (λ z. y ∷ z) (take_next k xs x e)

drop_none : {X : Type 0} (xs : List X) (k : ℕ) → xs ≡ [] → drop k xs ≡ []
drop_none [] zero e = refl
drop_none [] (suc k) e = refl
drop_none (x ∷ xs) k e = cc

pub drop_twice : {X : Type 0} (a b : ℕ) (xs : List X) (c : ℕ) → c ≡ a + b → drop b (drop a xs) ≡ drop c xs
drop_twice zero b xs c e = let same : b ≡ c = omega arith in ap (λ n. drop n xs) same
drop_twice (suc a) b [] c e = drop_none [] b refl ∙ sym (drop_none [] c refl)
drop_twice (suc a) b (x ∷ xs) zero e = absurd (omega arith)
drop_twice (suc a) b (x ∷ xs) (suc c) e = drop_twice a b xs c (omega arith)

pub length_of_rest : {X : Type 0} (k : ℕ) (xs : List X) → k ≤ length xs → k + length (drop k xs) ≡ length xs
length_of_rest zero xs l = omega arith
length_of_rest (suc k) [] l = absurd (omega arith)
length_of_rest (suc k) (x ∷ xs) l = let r = length_of_rest k xs (omega arith) in omega arith
