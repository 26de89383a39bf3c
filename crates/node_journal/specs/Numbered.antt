-- Slips whose places are 0, 1, 2 ..
use Rattle.std.specs.Prelude.{◌≡◌, ℕ, List, slice_get, map, Some}
use Rattle.node.specs.declared.event.Event.{Event}
use Rattle.node_journal.specs.declared.slip.Slip.{Slip}

-- each has the place at which it stands
abbrev pub AreNumbered : List Slip → Type 0
AreNumbered slips = (k : ℕ) (slip : Slip) → slice_get slips k ≡ Some slip → slip.place ≡ k

-- their events
abbrev pub events_of : List Slip → List Event
events_of slips = map (λ slip. slip.event) slips
