-- What comes to a federation from outside: startups, firings of timers, and recorded inputs, up to stop.
use Rattle.std.specs.Prelude.{◌≡◌, ℕ, zero, suc, ◌+◌, ◌-◌, ◌*◌, ◌/◌, ◌≤◌, pos, Bool, nat_eq, nat_le, if◌then◌else◌}
use Rattle.std.specs.Prelude.{List, [], ◌∷◌, ◌++◌, map, filter, length, All, AllPairs, IsSome, Option, None, Some}
use Rattle.std.specs.Prelude.{slice_get}
use Rattle.std.specs.Option.{option_map}
use Rattle.std.specs.List.{filter_map}
use Rattle.tag.specs.LogicalTime.{LogicalTime, origin, is_at_most, IsFinite}
use Rattle.network.specs.Event.{Event}
pub use Rattle.network.specs.Event.{outside}
use Rattle.plan_slots.specs.declared.slots.Slots.{Slots}
use Rattle.plan_slots.specs.declared.slots.Timer.{Timer}
use Rattle.plan.specs.declared.draft.Federate.{Federate}
use Rattle.plan.specs.declared.draft.Draft.{Draft}
use Rattle.plan.specs.declared.input.Input.{Input}
use Rattle.plan.specs.declared.input.TheConstants.{MOST_INPUTS}
use Rattle.plan_slots.specs.Numbering.{startup_slot, first_timer, first_physical}
use Rattle.plan.specs.Federation.{Found, found_in, stop_of}

-- this many times, each a period after the one before
abbrev pub times_from : ℕ → ℕ → ℕ → List ℕ
times_from time period zero = []
times_from time period (suc count) = time ∷ times_from (time + period) period count

-- how often a timer fires up to stop: with period 0 once
abbrev pub firing_count : ℕ → Timer → ℕ
firing_count stop t =
    if nat_le t.offset stop then (if nat_eq t.period 0 then 1 else (stop - t.offset) / t.period + 1) else 0

-- the times at which it does
abbrev pub firing_times : ℕ → Timer → List ℕ
firing_times stop t = times_from t.offset t.period (firing_count stop t)

-- the firings of timers, the first of which has this slot
abbrev pub firings_from : ℕ → ℕ → ℕ → List Timer → List Event
firings_from stop federate slot [] = []
firings_from stop federate slot (t ∷ rest) =
    map (λ time. outside (record { time = time; microstep = 0 }) federate slot (pos 0)) (firing_times stop t)
    ++ firings_from stop federate (slot + 1) rest

-- a federate's startup, where it has one
abbrev pub startup_of : ℕ → Slots → List Event
startup_of federate s = if s.startup then outside origin federate startup_slot (pos 0) ∷ [] else []

-- a federate's startup, and the firings of its timers
abbrev pub own_events : ℕ → ℕ → Slots → List Event
own_events stop federate s = startup_of federate s ++ firings_from stop federate (first_timer s) s.timers

-- those of federates, the first of which has this number
abbrev pub own_events_from : ℕ → ℕ → List Federate → List Event
own_events_from stop federate [] = []
own_events_from stop federate (f ∷ rest) = own_events stop federate f.slots ++ own_events_from stop (federate + 1) rest

-- the physical action of a recorded input
abbrev pub found_action : List Federate → Input → Option Found
found_action federates i = found_in (λ s. s.physical) federates i.federate i.action

-- the slot of this federate's physical action at this place
abbrev pub slot_in : Option Federate → ℕ → ℕ
slot_in None place = place
slot_in (Some f) place = first_physical f.slots + place

-- the slot of a federate's physical action at this place
abbrev pub physical_slot : List Federate → Found → ℕ
physical_slot federates found = slot_in (slice_get federates found.federate) found.place

-- the event of a recorded input
abbrev pub input_event : List Federate → Input → Option Event
input_event federates i =
    option_map (λ found. outside i.tag found.federate (physical_slot federates found) i.value)
    (found_action federates i)

-- recorded inputs up to stop
abbrev pub input_events : Draft → List Input → List Event
input_events d inputs = filter (λ e. is_at_most e.tag (stop_of d)) (filter_map (input_event d.federates) inputs)

-- all external events
abbrev pub external_of : Draft → List Input → List Event
external_of d inputs = own_events_from d.stop 0 d.federates ++ input_events d inputs

-- an event for this federate
abbrev pub is_for : ℕ → Event → Bool
is_for federate e = nat_eq e.reactor federate

-- the startup and the firings of this federate, where it is there
abbrev pub own_events_in : ℕ → ℕ → Option Federate → List Event
own_events_in stop federate None = []
own_events_in stop federate (Some f) = own_events stop federate f.slots

-- recorded inputs of one federate, up to stop
abbrev pub input_events_to : Draft → List Input → ℕ → List Event
input_events_to d inputs federate = filter (is_for federate) (input_events d inputs)

-- the external events of one federate
abbrev pub external_to : Draft → List Input → ℕ → List Event
external_to d inputs federate =
    own_events_in d.stop federate (slice_get d.federates federate) ++ input_events_to d inputs federate

-- a timer fires at this tag, up to stop: at microstep 0, at the offset, or later by a multiple of the period
pub record FiresAt (stop : ℕ) (t : Timer) (tag : LogicalTime) : Type 0 where
  pub microstep : tag.microstep ≡ 0
  pub in_time : tag.time ≤ stop
  pub periods : ℕ
  pub time : tag.time ≡ t.offset + periods * t.period

-- two recorded inputs aren't for one action at one tag
abbrev pub AreForDifferentActions : Input → Input → Type 0
AreForDifferentActions a b = a.federate ≡ b.federate → a.action ≡ b.action → a.tag ≡ b.tag → ⊥

-- inputs of a federation: physical actions of it, each at most once at a tag and never at FOREVER, and not too many
pub record AreInputsOf (d : Draft) (inputs : List Input) : Type 0 where
  pub known : All (λ i. IsSome (found_action d.federates i)) inputs
  pub apart : AllPairs AreForDifferentActions inputs
  pub few : length inputs ≤ MOST_INPUTS
  pub finite : All (λ i. IsFinite i.tag) inputs
