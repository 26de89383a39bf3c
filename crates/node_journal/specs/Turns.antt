-- The events that a node makes by itself, in turn: an announcement and then an advance. They are counted from 0.
use Rattle.std.specs.Prelude.{ℕ, zero, suc, ◌%◌, nat_eq, if◌then◌else◌, List, [], ◌∷◌, ◌++◌}
use Rattle.node.specs.declared.event.Event.{Event}
use Rattle.node.specs.declared.event.Event.TheVariants.{Announce, Advance}

-- the event of a number
abbrev pub turn_event : ℕ → Event
turn_event number = if nat_eq (number % 2) 0 then Announce else Advance

-- the first ones, this many
abbrev pub turn_events : ℕ → List Event
turn_events zero = []
turn_events (suc count) = turn_events count ++ turn_event count ∷ []
