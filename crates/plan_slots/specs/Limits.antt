-- The limits of what a federate has.
use Rattle.std.specs.Prelude.{◌^◌, ◌<◌, ◌≤◌, length}
use Rattle.plan_slots.specs.declared.slots.Slots.{Slots}
use Rattle.plan_slots.specs.declared.slots.Timer.{Timer}
use Rattle.plan_slots.specs.declared.limits.TheConstants.{MOST_SLOTS}

-- a federate has not too many of each kind of slot
pub record IsWithinLimits (s : Slots) : Type 0 where
  pub inputs : length s.inputs ≤ MOST_SLOTS
  pub outputs : length s.outputs ≤ MOST_SLOTS
  pub timers : length s.timers ≤ MOST_SLOTS
  pub actions : length s.actions ≤ MOST_SLOTS
  pub physical : length s.physical ≤ MOST_SLOTS

-- a timer's times are below 2^62 ns
abbrev pub IsTimerInRange : Timer → Type 0
IsTimerInRange t = (t.offset < 2 ^ 62) × (t.period < 2 ^ 62)
