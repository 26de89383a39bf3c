-- What a worker's share is after it handed in an event, or several.
use Rattle.std.specs.Prelude.{◌≡◌, ℕ, zero, suc, List, [], ◌∷◌, ◌++◌}
use Rattle.node.specs.declared.event.Event.{Event}
use Rattle.node.specs.declared.event.Event.TheVariants.{Announce, Advance}
use Rattle.node_journal.specs.declared.slip.Slip.{Slip}

-- the event has a slip, the last one; or there was no memory, and the share is as before
pub data HandedIn (old : List Slip) (event : Event) (new : List Slip) : Type 0 where
  handled : (place : ℕ) → new ≡ old ++ record { place = place; event = event } ∷ [] → HandedIn old event new
  no_memory : new ≡ old → HandedIn old event new

-- the events are handed in one after the other
pub data AreHandedIn (old : List Slip) : List Event → List Slip → Type 0 where
  none : AreHandedIn old [] old
  one_more : {events : List Event} {share : List Slip} {event : Event} {new : List Slip} →
      AreHandedIn old events share → HandedIn share event new → AreHandedIn old (events ++ event ∷ []) new

-- the events of this many turns
abbrev pub events_of_turns : ℕ → List Event
events_of_turns zero = []
events_of_turns (suc n) = events_of_turns n ++ Announce ∷ Advance ∷ []
