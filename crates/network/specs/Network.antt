-- A network: reactors that react to what is present, connections between them, and what comes from outside.
use Rattle.std.specs.Prelude.{ℕ, ℤ, nat_eq, if◌then◌else◌, List, Option}
use Rattle.tag.specs.LogicalTime.{LogicalTime}
use Rattle.network.specs.Connection.{Connection}
use Rattle.network.specs.Event.{Event}

-- an action that a reactor schedules: which of its slots, after which delay, with which value
pub record Scheduling : Type 0 where
  pub slot : ℕ
  pub delay : LogicalTime
  pub value : ℤ

-- what a turn of a reactor makes: its new states, what is set at its output ports, and its schedulings in order
pub record Effect : Type 0 where
  pub states : List ℤ
  pub outputs : ℕ → Option ℤ
  pub schedulings : List Scheduling

pub record Network : Type 0 where
  -- how many reactors there are; they go by number from 0
  pub reactors : ℕ
  -- how many slots each reactor has, at which something can be present
  pub slots : ℕ → ℕ
  -- how many output ports each reactor has
  pub ports : ℕ → ℕ
  pub connections : List Connection
  -- each reactor's place among turns at one tag
  pub rank : ℕ → ℕ
  -- the last tag at which anything runs
  pub stop : LogicalTime
  -- startups, firings of timers and recorded inputs, up to stop
  pub external : List Event
  -- each reactor's states at first
  pub initial : ℕ → List ℤ
  -- what each reactor makes of its states and of what is present at its slots
  pub effect : ℕ → List ℤ → (ℕ → Option ℤ) → Effect

-- values by number, with one of them replaced
abbrev pub with_one : {A : Type 0} → (ℕ → A) → ℕ → A → ℕ → A
with_one values which mine other = if nat_eq other which then mine else values other
