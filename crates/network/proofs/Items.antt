-- What holds of all items of a list, or of each and each later one, and of a list in which one was replaced.
use Rattle.std.proofs.Common.{ℕ, zero, suc, ◌≡◌, ◌≢◌, ◌<◌, List, [], ◌∷◌, length, set, slice_get, refl, ap, arith, Option, None, Some}
use Rattle.std.specs.Prelude.{All, AllPairs}
use Rattle.std.specs.List.{filter_map, cons_option, AllByRecursion}
use Rattle.std.proofs.lemmas.List.Elements.{All-nil, All-cons, All-head, All-tail}
use Rattle.std.proofs.lemmas.List.Kept.{AllPairs-cons}
use Rattle.std.proofs.lemmas.Option.{slice_get_within}
use Rattle.network.specs.Items.{AllPairsByRecursion}

pub each : {X : Type 0} (P : X → Type 0) (xs : List X) → All P xs → AllByRecursion P xs
each P [] a = tt
each P (x ∷ xs) a = (a 0 x (omega arith), each P xs (λ k d h. a (suc k) d (omega arith)))

pub from_each : {X : Type 0} (P : X → Type 0) (xs : List X) → AllByRecursion P xs → All P xs
from_each P [] a = λ k d h. absurd (omega arith)
from_each P (x ∷ xs) a = All-cons P x xs a.0 (from_each P xs a.1)

-- what is made of the items
pub All-filter_map : {X Y : Type 0} (P : X → Type 0) (Q : Y → Type 0) (h : X → Option Y) (xs : List X)
    → ((x : X) (y : Y) → P x → h x ≡ Some y → Q y) → All P xs → All Q (filter_map h xs)
All-filter_map P Q h [] each given = All-nil Q
All-filter_map {Y = Y} P Q h (x ∷ xs) each given =
    onto (h x) refl (All-filter_map P Q h xs each (All-tail P x xs given))
  where
    onto : (o : Option Y) → h x ≡ o → All Q (filter_map h xs) → All Q (cons_option o (filter_map h xs))
    onto None is rest = rest
    onto (Some y) is rest = All-cons Q y (filter_map h xs) (each x y (All-head P x xs given) is) rest

pub no_pairs : {X : Type 0} (R : X → X → Type 0) → AllPairs R []
no_pairs R = λ i j d before within. absurd (omega arith)

pub first_pair : {X : Type 0} (R : X → X → Type 0) (x : X) (xs : List X) → AllPairs R (x ∷ xs) → All (R x) xs
first_pair R x xs apart = λ k d within. apart 0 (suc k) d (omega arith) (omega arith)

pub later_pairs : {X : Type 0} (R : X → X → Type 0) (x : X) (xs : List X) → AllPairs R (x ∷ xs) → AllPairs R xs
later_pairs R x xs apart = λ i j d before within. apart (suc i) (suc j) d (omega arith) (omega arith)

pub each_pair : {X : Type 0} (R : X → X → Type 0) (xs : List X) → AllPairs R xs → AllPairsByRecursion R xs
each_pair R [] apart = tt
each_pair R (x ∷ xs) apart = (each (R x) xs (first_pair R x xs apart), each_pair R xs (later_pairs R x xs apart))

pub from_each_pair : {X : Type 0} (R : X → X → Type 0) (xs : List X) → AllPairsByRecursion R xs → AllPairs R xs
from_each_pair R [] apart = no_pairs R
from_each_pair R (x ∷ xs) apart = AllPairs-cons R x xs (from_each (R x) xs apart.0) (from_each_pair R xs apart.1)

-- a list in which one item was replaced
pub get_set_within : {X : Type 0} (xs : List X) (i : ℕ) (y : X) → i < length xs → slice_get (set xs i y) i ≡ Some y
get_set_within [] i y below = absurd (omega arith)
get_set_within (a ∷ xs) zero y below = refl
get_set_within (a ∷ xs) (suc i) y below = get_set_within xs i y (omega arith)

pub get_set_here : {X : Type 0} (xs : List X) (i : ℕ) (x y : X) → slice_get xs i ≡ Some x → slice_get (set xs i y) i ≡ Some y
get_set_here xs i x y found = get_set_within xs i y (slice_get_within xs i x found)

pub get_set_other : {X : Type 0} (xs : List X) (i j : ℕ) (y : X) → j ≢ i → slice_get (set xs i y) j ≡ slice_get xs j
get_set_other [] i j y other = refl
get_set_other (a ∷ xs) zero zero y other = absurd (other refl)
get_set_other (a ∷ xs) zero (suc j) y other = refl
get_set_other (a ∷ xs) (suc i) zero y other = refl
get_set_other (a ∷ xs) (suc i) (suc j) y other = get_set_other xs i j y (λ e. other (ap suc e))
