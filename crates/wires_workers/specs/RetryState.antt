-- How a runner goes on: turns, and waits for a wake-up in between.
use Rattle.std.specs.Prelude.{◌≡◌, ◌↔◌, ℕ, suc, ◌+◌, ◌-◌, ◌%◌, Bool, true, false, not, ◌&&◌, nat_eq, if◌then◌else◌}
use Rattle.std.specs.Prelude.{List, [], ◌∷◌, Option, None, Some}
use Rattle.wires_workers.specs.declared.retry_state.Next.{Next}
use Rattle.wires_workers.specs.declared.retry_state.Next.TheVariants.{Turn, Wait, Repeat, End}
use Rattle.wires_workers.specs.declared.wake_ups.WakeUp.{WakeUp}
use Rattle.wires_workers.specs.declared.wake_ups.WakeUp.TheVariants.{Done, NotConnected}
use Rattle.wires_transports.specs.declared.times.TheConstants.{WAITS_BEFORE_RESEND}

-- the turns that are left, and the waits so far without a wake-up, in a row
pub record RetryState : Type 0 where
  pub turns : ℕ
  pub waits : ℕ

-- a turn where one is left
abbrev pub turn_of : ℕ → Next
turn_of turns = if nat_eq turns 0 then End else Turn

-- after this many turns
abbrev pub turned : RetryState → (made : ℕ) → RetryState
turned p made = record { turns = p.turns - made; waits = p.waits }

-- after a turn, whose state this is: it waits where nothing was done and a turn is left
abbrev pub after_turn : RetryState → (idle : Bool) → Next
after_turn p idle = if not (nat_eq p.turns 0) && idle then Wait else turn_of p.turns

-- whether this wait is the last of this many without a wake-up
abbrev pub is_long : RetryState → (wake_up : Bool) → Bool
is_long p wake_up = not wake_up && nat_eq (p.waits + 1) WAITS_BEFORE_RESEND

-- after a wait; a wake-up begins the count again, and so does the last wait
abbrev pub waited : RetryState → (wake_up : Bool) → RetryState
waited p wake_up =
    record { turns = p.turns; waits = if wake_up then 0 else (if is_long p wake_up then 0 else p.waits + 1) }

-- after this many waits without a wake-up what may be lost is sent again, and else it goes on
abbrev pub after_wait : RetryState → (wake_up : Bool) → Next
after_wait p wake_up = if is_long p wake_up then Repeat else turn_of p.turns

-- after a wait that ended by this wake-up, or without one: a failed attempt to connect counts as a turn in which
-- nothing was done, and all else that was done begins the count of waits again
abbrev pub after_waiting : RetryState → Option WakeUp → Next
after_waiting p None = after_wait p false
after_waiting p (Some Done) = after_wait p true
after_waiting p (Some NotConnected) = after_turn (turned p 1) true

-- what befalls a runner: turns are made, by it or in its place, or a wait is over, by a wake-up or without one
pub data Befallen : Type 0 where
  turns_made : (count : ℕ) → Befallen
  wait_over : (wake_up : Bool) → Befallen

-- the state after all that, newest first, of a runner that had this many turns
abbrev pub state_after : (turns : ℕ) → List Befallen → RetryState
state_after all [] = record { turns = all; waits = 0 }
state_after all (turns_made count ∷ before) = turned (state_after all before) count
state_after all (wait_over wake_up ∷ before) = waited (state_after all before) wake_up

-- how many waits in a row ended without a wake-up, whatever turns were made in between
abbrev pub silent_waits : List Befallen → ℕ
silent_waits [] = 0
silent_waits (turns_made count ∷ before) = silent_waits before
silent_waits (wait_over true ∷ before) = 0
silent_waits (wait_over false ∷ before) = suc (silent_waits before)

-- after a wait it greets and sends again exactly where in a row without a wake-up this was the last of this many, or of
-- twice this many, and so on
abbrev pub RepeatsAfterSilence : Type 0
RepeatsAfterSilence =
    (turns : ℕ) (before : List Befallen) (wake_up : Bool) →
    (after_wait (state_after turns before) wake_up ≡ Repeat)
    ↔ ((wake_up ≡ false) × (suc (silent_waits before) % WAITS_BEFORE_RESEND ≡ 0))
