-- A station with the journal of its events, and the station that a journal gives.
use Rattle.std.specs.Prelude.{Bool, List, [], ◌∷◌}
use Rattle.node.specs.declared.event.Event.{Event}
use Rattle.node.specs.Core.{Core}
use Rattle.node.specs.Step.{Station, step_of, initial_of}

-- a station, and all events that came to it, oldest first
pub record Desk (View : Type 0) : Type 0 where
  pub station : Station View
  pub journal : List Event

-- the station after these events, one after the other
abbrev pub after_all : {View Row : Type 0} → Core View Row → (is_coordinator : Bool) → Station View
    → List Event → Station View
after_all core is_coordinator s [] = s
after_all core is_coordinator s (event ∷ events) =
    after_all core is_coordinator (step_of core is_coordinator s event).station events

-- the station that a journal gives: all its events, from the initial station of what it was made from
abbrev pub replay : {View Row : Type 0} → Core View Row → (is_coordinator : Bool) → Station View
    → List Event → Station View
replay core is_coordinator s journal = after_all core is_coordinator (initial_of core s) journal
