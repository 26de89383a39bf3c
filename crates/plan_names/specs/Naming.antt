-- Names in a list, and where a name stands.
use Rattle.std.specs.Prelude.{◌≡◌, ℕ, suc, ◌<◌, List, [], ◌∷◌, Option, None, Some, if◌then◌else◌, slice_get}
use Rattle.std.specs.Option.{option_map}
use Rattle.std.specs.Str.{bytes_eq}
use Rattle.std.specs.List.{IsDistinct}

-- the place of the first of these names that is this one
abbrev pub place_of : List (List ℕ) → List ℕ → Option ℕ
place_of [] name = None
place_of (first ∷ rest) name = if bytes_eq first name then Some 0 else option_map suc (place_of rest name)

-- no name stands twice
abbrev pub AreDistinct : List (List ℕ) → Type 0
AreDistinct names = IsDistinct bytes_eq names

-- an element stands at two places of a list
pub record StandsTwice {X : Type 0} (xs : List X) (x : X) : Type 0 where
  pub first : ℕ
  pub later : ℕ
  pub in_order : first < later
  pub at_first : slice_get xs first ≡ Some x
  pub at_later : slice_get xs later ≡ Some x
