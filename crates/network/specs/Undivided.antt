-- The undivided program: all reactors of a network as one program, with one set of pending events. It knows no more
-- than the network.
use Rattle.std.specs.Prelude.{ℕ, zero, suc, ◌+◌, ℤ, Bool, not, ◌&&◌, ◌||◌, nat_eq, nat_lt, if◌then◌else◌, List, [], ◌∷◌}
use Rattle.std.specs.Prelude.{◌++◌, filter, Option, None, Some}
use Rattle.std.specs.List.{flat_map}
use Rattle.tag.specs.LogicalTime.{LogicalTime, is_before, is_at_most, is_same, sum_of}
use Rattle.network.specs.Connection.{Connection}
use Rattle.network.specs.Event.{Event, Entry, is_at, present_at, listed}
use Rattle.network.specs.Network.{Network, Scheduling, Effect, with_one}

-- one turn of one reactor: what was present, and which outputs were set
pub record Row : Type 0 where
  pub reactor : ℕ
  pub tag : LogicalTime
  pub inputs : List Entry
  pub outputs : List Entry

-- the row of a turn at a tag: of a reactor with this many slots and output ports, with this present, and with this
-- effect
abbrev pub row_made : ℕ → ℕ → ℕ → LogicalTime → (ℕ → Option ℤ) → Effect → Row
row_made reactor slots ports tag present effect =
    record { reactor = reactor; tag = tag; inputs = listed slots present; outputs = listed ports effect.outputs }

-- the row of a reactor's turn at a tag, with these states and with this present
abbrev pub row_of_turn : Network → ℕ → LogicalTime → List ℤ → (ℕ → Option ℤ) → Row
row_of_turn n reactor tag states present =
    row_made reactor (n.slots reactor) (n.ports reactor) tag present (n.effect reactor states present)

-- all states, all that is pending, and the rows so far, oldest first
pub record Undivided : Type 0 where
  pub states : ℕ → List ℤ
  pub pending : List Event
  pub rows : List Row

-- before the first turn the external events are pending
abbrev pub initial_of : Network → Undivided
initial_of n = record { states = n.initial; pending = n.external; rows = [] }

-- by these ranks, a reactor's turn at a tag is before another's: by tag, then by rank
abbrev pub comes_before : (ℕ → ℕ) → ℕ → LogicalTime → ℕ → LogicalTime → Bool
comes_before rank reactor tag other other_tag =
    is_before tag other_tag || (is_same tag other_tag && nat_lt (rank reactor) (rank other))

-- the first event's turn is before the second's
abbrev pub is_turn_before : Network → Event → Event → Bool
is_turn_before n a b = comes_before n.rank a.reactor a.tag b.reactor b.tag

-- the earlier of two turns
abbrev pub earlier_of : Network → Event → Option Event → Event
earlier_of n e None = e
earlier_of n e (Some other) = if is_turn_before n other e then other else e

-- an event of the least (tag, rank)
abbrev pub first_of_turns : Network → List Event → Option Event
first_of_turns n [] = None
first_of_turns n (e ∷ rest) = Some (earlier_of n e (first_of_turns n rest))

-- the message of a value that is set at a connection's port
abbrev pub message_of : LogicalTime → Connection → Option ℤ → List Event
message_of tag c None = []
message_of tag c (Some value) =
    record {
      tag = sum_of tag c.delay;
      reactor = c.target;
      slot = c.slot;
      source = record { tag = tag; place = 0 };
      value = value;
    } ∷ []

-- what one connection carries of a reactor's turn
abbrev pub carried_by : ℕ → LogicalTime → (ℕ → Option ℤ) → Connection → List Event
carried_by reactor tag outputs c = if nat_eq c.source reactor then message_of tag c (outputs c.port) else []

-- the events that schedulings make, the first at this place of the list
abbrev pub scheduled_from : ℕ → LogicalTime → ℕ → List Scheduling → List Event
scheduled_from reactor tag place [] = []
scheduled_from reactor tag place (s ∷ rest) =
    record {
      tag = sum_of tag s.delay;
      reactor = reactor;
      slot = s.slot;
      source = record { tag = tag; place = place };
      value = s.value;
    } ∷ scheduled_from reactor tag (place + 1) rest

-- the events that a turn makes, as far as they aren't later than stop
abbrev pub made_by : Network → ℕ → LogicalTime → Effect → List Event
made_by n reactor tag effect =
    filter (λ e. is_at_most e.tag n.stop)
    (flat_map (carried_by reactor tag effect.outputs) n.connections ++ scheduled_from reactor tag 0 effect.schedulings)

-- what a reactor's turn at a tag makes of its states and of what is pending for it there
abbrev pub effect_at : Network → Undivided → ℕ → LogicalTime → Effect
effect_at n u reactor tag = n.effect reactor (u.states reactor) (present_at u.pending reactor tag)

-- the row of that turn
abbrev pub row_at : Network → Undivided → ℕ → LogicalTime → Row
row_at n u reactor tag = row_of_turn n reactor tag (u.states reactor) (present_at u.pending reactor tag)

-- the states with one reactor's replaced
abbrev pub with_states : (ℕ → List ℤ) → ℕ → List ℤ → ℕ → List ℤ
with_states states reactor mine = with_one states reactor mine

-- after a turn of a reactor at a tag: all that was pending for it there is gone, and what it made is pending
abbrev pub after_turn_at : Network → Undivided → ℕ → LogicalTime → Undivided
after_turn_at n u reactor tag =
    record {
      states = with_states u.states reactor (effect_at n u reactor tag).states;
      pending = filter (λ e. not (is_at reactor tag e)) u.pending ++ made_by n reactor tag (effect_at n u reactor tag);
      rows = u.rows ++ row_at n u reactor tag ∷ [];
    }

-- the turn that begins with this event; where there is none, nothing changes
abbrev pub after_turn_of : Network → Undivided → Option Event → Undivided
after_turn_of n u None = u
after_turn_of n u (Some e) = after_turn_at n u e.reactor e.tag

-- one turn: that of the least (tag, rank) pending
abbrev pub turn_of : Network → Undivided → Undivided
turn_of n u = after_turn_of n u (first_of_turns n u.pending)

-- after this many turns
abbrev pub undivided_after : Network → ℕ → Undivided
undivided_after n zero = initial_of n
undivided_after n (suc turns) = turn_of n (undivided_after n turns)

-- the rows after this many turns
abbrev pub whole : Network → ℕ → List Row
whole n turns = (undivided_after n turns).rows

-- one reactor's part of rows
abbrev pub part : ℕ → List Row → List Row
part reactor rows = filter (λ row. nat_eq row.reactor reactor) rows
