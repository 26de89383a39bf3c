-- A federate's slots by number: 0 is startup, then come inputs, timers, actions and physical actions, each in order of
-- declaration. Output ports have numbers of their own.
use Rattle.std.specs.Prelude.{ℕ, ◌+◌, Bool, ◌&&◌, ◌||◌, nat_eq, nat_lt, nat_le, List, ◌++◌, map, length}
use Rattle.plan_slots.specs.declared.slots.Slots.{Slots}
use Rattle.plan_slots.specs.declared.slots.Timer.{Timer}

-- the slot of startup
abbrev pub startup_slot : ℕ
startup_slot = 0

-- the slot of the first input
abbrev pub first_input : ℕ
first_input = 1

-- the slot of the first timer
abbrev pub first_timer : Slots → ℕ
first_timer s = first_input + length s.inputs

-- the slot of the first action
abbrev pub first_action : Slots → ℕ
first_action s = first_timer s + length s.timers

-- the slot of the first physical action
abbrev pub first_physical : Slots → ℕ
first_physical s = first_action s + length s.actions

-- how many slots there are
abbrev pub slot_count : Slots → ℕ
slot_count s = first_physical s + length s.physical

-- startup and timers have no value
abbrev pub is_bare : Slots → ℕ → Bool
is_bare s slot = nat_eq slot startup_slot || (nat_le (first_timer s) slot && nat_lt slot (first_action s))

-- the names of timers, in their order
abbrev pub timer_names : List Timer → List (List ℕ)
timer_names timers = map (λ t. t.name) timers

-- the names of all slots and outputs, which share one set of names
abbrev pub all_names : Slots → List (List ℕ)
all_names s = s.inputs ++ s.outputs ++ timer_names s.timers ++ s.actions ++ s.physical
