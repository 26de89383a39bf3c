-- What a search in a list in order needs and finds.
use Rattle.std.proofs.Common.{ℕ, zero, suc, ◌<◌, ◌≤◌, List, [], ◌∷◌, length, get_or, arith}
use Rattle.std.specs.List.{AllByRecursion}
use Rattle.std.specs.List.Sorted.{IsNonDecreasingBy}
use Rattle.reactor_agenda.specs.Invariant.{EachBefore}

module _ {X : Type 0} where
  pub all_at : (P : X → Type 0) (xs : List X) (i : ℕ) (d : X) → AllByRecursion P xs → i < length xs → P (get_or xs i d)
  all_at P [] i d a h = absurd (omega arith)
  all_at P (x ∷ xs) zero d a h = a.0
  all_at P (x ∷ xs) (suc i) d a h = all_at P xs i d a.1 (omega arith)

  -- numbers rise where the order makes them
  pub rises_by : (R : X → X → Type 0) (n : X → ℕ) (xs : List X) → ((x y : X) → R x y → n x ≤ n y) → EachBefore R xs → IsNonDecreasingBy n xs
  rises_by R n [] up r i j d h l = absurd (omega arith)
  rises_by R n (x ∷ xs) up r zero zero d h l = omega arith
  rises_by R n (x ∷ xs) up r zero (suc j) d h l = up x (get_or xs j d) (all_at (R x) xs j d r.0 (omega arith))
  rises_by R n (x ∷ xs) up r (suc i) zero d h l = absurd (omega arith)
  rises_by R n (x ∷ xs) up r (suc i) (suc j) d h l = rises_by R n xs up r.1 i j d (omega arith) (omega arith)
