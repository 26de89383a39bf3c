-- A declared federation in numbers: which ports its connections join, and the levels and ranks of its federates.
use Rattle.std.specs.Prelude.{ℕ, ◌+◌, List, map, length, slice_get, Option, None, Some}
use Rattle.std.specs.Option.{option_map, option_and_then}
use Rattle.std.specs.List.{filter_map}
use Rattle.tag.specs.LogicalTime.{LogicalTime, origin, delay_of}
use Rattle.network.specs.Connection.{Connection}
use Rattle.plan_paths.specs.Levels.{level_within, before_by}
use Rattle.plan_slots.specs.declared.slots.Slots.{Slots}
use Rattle.plan.specs.declared.draft.Federate.{Federate}
use Rattle.plan_names.specs.declared.port.PortName.{PortName}
use Rattle.plan.specs.declared.draft.ConnectionDraft.{ConnectionDraft}
use Rattle.plan.specs.declared.draft.Draft.{Draft}
use Rattle.plan_names.specs.Naming.{place_of}
use Rattle.plan_slots.specs.Numbering.{first_input}

-- the names of federates, in their order
abbrev pub federate_names : List Federate → List (List ℕ)
federate_names federates = map (λ f. f.name) federates

-- the federate of this name, by number
abbrev pub federate_number : List Federate → List ℕ → Option ℕ
federate_number federates name = place_of (federate_names federates) name

-- a port or an action that is found: the federate's number, and the place among its names of that kind
pub record Found : Type 0 where
  pub federate : ℕ
  pub place : ℕ

-- the place of a name among those names of a federate that `names_of` gives
abbrev pub place_in : (Slots → List (List ℕ)) → Option Federate → List ℕ → Option ℕ
place_in names_of None name = None
place_in names_of (Some f) name = place_of (names_of f.slots) name

-- the federate of this name, and the place of the second name among those that `names_of` gives
abbrev pub found_in : (Slots → List (List ℕ)) → List Federate → List ℕ → List ℕ → Option Found
found_in names_of federates federate name =
    option_and_then
    (λ number. option_map (λ place. record { federate = number; place = place })
    (place_in names_of (slice_get federates number) name))
    (federate_number federates federate)

-- the output port of this name, by the numbers of its federate and its place there
abbrev pub found_output : List Federate → PortName → Option Found
found_output federates p = found_in (λ s. s.outputs) federates p.federate p.port

-- the input port of this name, by the numbers of its federate and its place there
abbrev pub found_input : List Federate → PortName → Option Found
found_input federates p = found_in (λ s. s.inputs) federates p.federate p.port

-- the delay that `after` says: none without it, and a microstep for 0
abbrev pub delay_after : Option ℕ → LogicalTime
delay_after None = origin
delay_after (Some time) = delay_of time

-- a connection by numbers, where both its ports are there
abbrev pub connection_of : List Federate → ConnectionDraft → Option Connection
connection_of federates c =
    option_and_then
    (λ from. option_map
    (λ to. record {
      source = from.federate;
      port = from.place;
      target = to.federate;
      slot = first_input + to.place;
      delay = delay_after c.after;
    })
    (found_input federates c.to))
    (found_output federates c.from)

-- the connections by numbers, in their order
abbrev pub connections_of : Draft → List Connection
connections_of d = filter_map (connection_of d.federates) d.connections

-- how many federates there are
abbrev pub federate_count : Draft → ℕ
federate_count d = length d.federates

-- the tag of the stop time
abbrev pub stop_of : Draft → LogicalTime
stop_of d = record { time = d.stop; microstep = 0 }

-- a federate's level; in a legal federation no zero-delay path has more connections than there are federates
abbrev pub level_of : Draft → ℕ → ℕ
level_of d j = level_within (connections_of d) (federate_count d) j

-- a federate's rank: its place by (level, number), from 0
abbrev pub rank_of : Draft → ℕ → ℕ
rank_of d i = before_by (level_of d) (federate_count d) i
