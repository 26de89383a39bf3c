-- What a turn of a federate puts on agendas. From `Kept` on it is for proofs: what the loop of `put_made` has put so
-- far. What a turn means is `IsAfterTurn` of `Agendas`.
use Rattle.std.specs.Prelude.{ℕ, ℤ, Bool, false, ◌||◌, nat_eq, if◌then◌else◌, List, [], ◌∷◌, ◌++◌, Option, None, Some}
use Rattle.std.specs.List.{flat_map}
use Rattle.tag.specs.LogicalTime.{LogicalTime, forever, sum_of}
use Rattle.network.specs.Connection.{Connection}
use Rattle.network.specs.Event.{Entry, value_at}
use Rattle.network.specs.Network.{Scheduling}
use Rattle.network.specs.Undone.{PendingEvent, put_all, drop_up_to}
use Rattle.reactor_agenda.specs.Agenda.{Agenda, in_time, least_in}

-- a turn that was run, up to which tag its events are kept, what was present, and what it made
pub record TurnMade : Type 0 where
  pub federate : ℕ
  pub tag : LogicalTime
  pub stop : LogicalTime
  pub inputs : List Entry
  pub outputs : List Entry
  pub schedulings : List Scheduling

-- the event of a value for a slot at a tag, if there is one, and if it isn't later than stop
abbrev pub held_if : LogicalTime → LogicalTime → ℕ → Option ℤ → List PendingEvent
held_if stop tag slot None = []
held_if stop tag slot (Some value) = in_time stop (record { tag = tag; slot = slot; value = value } ∷ [])

-- what a connection carries of the turn
abbrev pub carried_over : TurnMade → Connection → List PendingEvent
carried_over t c = held_if t.stop (sum_of t.tag c.delay) c.slot (value_at t.outputs c.port)

-- what a scheduling makes
abbrev pub deferred_by : TurnMade → Scheduling → List PendingEvent
deferred_by t s = held_if t.stop (sum_of t.tag s.delay) s.slot (Some s.value)

-- the turn's schedulings, if the target is its own federate
abbrev pub own_deferred : TurnMade → ℕ → List PendingEvent
own_deferred t target = if nat_eq target t.federate then flat_map (deferred_by t) t.schedulings else []

-- what is put to a target
abbrev pub put_to : TurnMade → ℕ × List Connection → List PendingEvent
put_to t target = flat_map (carried_over t) target.1 ++ own_deferred t target.0

-- of an agenda, up to which tag its events are kept, and what is undone
pub record Kept : Type 0 where
  pub stop : LogicalTime
  pub undone : List PendingEvent

-- an agenda, without what stood before the last events were put
abbrev pub kept_on : Agenda → Kept
kept_on a = record { stop = a.stop; undone = a.undone }

-- what is kept, after that was put
abbrev pub after_put : TurnMade → ℕ × List Connection → Kept → Kept
after_put t target kept = record kept { undone = put_all (in_time kept.stop (put_to t target)) kept.undone }

-- what is kept of a federate, after it was put to all these targets
abbrev pub after_puts : TurnMade → List (ℕ × List Connection) → ℕ → Kept → Kept
after_puts t [] federate kept = kept
after_puts t (target ∷ rest) federate kept =
    after_puts t rest federate (if nat_eq target.0 federate then after_put t target kept else kept)

-- what is kept, after what was up to a tag was dropped
abbrev pub dropped : LogicalTime → Kept → Kept
dropped tag kept = record kept { undone = drop_up_to tag kept.undone }

-- what is kept of a federate, after a turn was put to these targets
abbrev pub after_turn : TurnMade → List (ℕ × List Connection) → ℕ → Kept → Kept
after_turn t targets federate kept =
    if nat_eq t.federate federate then dropped t.tag (after_puts t targets federate kept)
    else after_puts t targets federate kept

-- the federate is one of these targets
abbrev pub has_target : ℕ → List (ℕ × List Connection) → Bool
has_target federate [] = false
has_target federate (target ∷ rest) = nat_eq target.0 federate || has_target federate rest

-- the least tag on a federate's agenda, if it is there
abbrev pub least_on : Option Agenda → LogicalTime
least_on None = forever
least_on (Some a) = least_in a.undone
