-- When the slips of several workers are a journal. Places count from 0.
use Rattle.std.specs.Prelude.{◌≡◌, ℕ, ◌<◌, Bool, nat_eq, List, [], ◌∷◌, ◌++◌, length, slice_get, Some, All}
use Rattle.std.specs.List.{AllPairs, count_by}
use Rattle.node.specs.declared.event.Event.{Event}
use Rattle.node_journal.specs.declared.slip.Slip.{Slip}

-- all slips of all shares
abbrev pub all_slips : List (List Slip) → List Slip
all_slips [] = []
all_slips (slips ∷ shares) = slips ++ all_slips shares

-- the places of a worker's slips rise
abbrev pub PlacesRise : List Slip → Type 0
PlacesRise slips = AllPairs (λ earlier later. earlier.place < later.place) slips

-- the journal has the slip's event at the slip's place
abbrev pub IsTrueOf : List Event → Slip → Type 0
IsTrueOf journal slip = slice_get journal slip.place ≡ Some slip.event

-- whether it is the slip of a place
abbrev pub is_for : ℕ → Slip → Bool
is_for place slip = nat_eq slip.place place

-- the shares are the journal: in each the places rise, each slip is true of the journal, and each place has one slip
pub record Agree (journal : List Event) (shares : List (List Slip)) : Type 0 where
  pub rise : All PlacesRise shares
  pub true_of : All (IsTrueOf journal) (all_slips shares)
  pub once : (place : ℕ) → place < length journal → count_by (is_for place) (all_slips shares) ≡ 1
