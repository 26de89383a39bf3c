-- A federate: one reactor of a network, which runs a tag once that is granted. What it does with a signal, and what it
-- says by itself.
use Rattle.std.specs.Prelude.{ℕ, ◌+◌, ℤ, Bool, false, not, ◌&&◌, nat_eq, if◌then◌else◌, List, [], ◌∷◌, ◌++◌, map}
use Rattle.std.specs.Prelude.{filter, slice_get, Option, None, Some, unwrap_or}
use Rattle.tag.specs.LogicalTime.{LogicalTime, forever, is_at_most, is_same, sum_of, is_past, is_reached}
use Rattle.network.specs.Connection.{Connection}
use Rattle.network.specs.Network.{Network, Scheduling, Effect}
use Rattle.network.specs.Undivided as undivided
use Rattle.network.specs.Undivided.{Row}
use Rattle.signal.specs.declared.signal.Signal.{Signal}
use Rattle.signal.specs.declared.signal.Signal.TheVariants.{Net, Ltc, Tag, Msg}
use Rattle.protocol.specs.declared.refusal.Refusal.TheVariants.{Late, OldGrant, WrongSignal}
use Rattle.protocol.specs.Outcome.{Outcome, Refused, Nothing, Done}
use Rattle.network.specs.Undone.{PendingEvent, pending_event_of, put, put_all, look, first_tag, drop_up_to}

-- granted: up to which tag it may run. completed: the last tag that it ran. announced: the last NET, if no tag was run
-- since
pub record Federate : Type 0 where
  pub states : List ℤ
  pub undone : List PendingEvent
  pub granted : Option LogicalTime
  pub completed : Option LogicalTime
  pub announced : Option LogicalTime
  pub rows : List Row

-- what a step makes: the federate after it, and the signals to the coordinator
pub record Stepped : Type 0 where
  pub after : Federate
  pub sent : List Signal

-- at first its own external events are undone
abbrev pub initial_federate : Network → ℕ → Federate
initial_federate n j =
    record {
      states = n.initial j;
      undone = put_all (map pending_event_of (filter (λ e. nat_eq e.reactor j) n.external)) [];
      granted = None;
      completed = None;
      announced = None;
      rows = [];
    }

-- a TAG
abbrev pub accept_grant : Network → Federate → LogicalTime → Outcome Stepped
accept_grant n f tag =
    if not (is_at_most tag n.stop) then Refused WrongSignal
    else if not (is_past f.granted tag) then Refused OldGrant
    else Done (record { after = record f { granted = Some tag }; sent = [] })

-- a message over a connection: it is put among the undone events
abbrev pub accept_message : Network → ℕ → Federate → Option Connection → LogicalTime → ℤ → Outcome Stepped
accept_message n j f None tag value = Refused WrongSignal
accept_message n j f (Some c) tag value =
    if not (nat_eq c.target j && is_at_most tag n.stop) then Refused WrongSignal
    else if not (is_past f.completed tag && is_past f.granted tag) then Refused Late
    else Done (record {
      after = record f
          { undone = put (record { tag = tag; slot = c.slot; value = value }) f.undone };
      sent = [];
    })

-- what federate j does with a signal
abbrev pub federate_accepts : Network → ℕ → Federate → Signal → Outcome Stepped
federate_accepts n j f (Net tag) = Refused WrongSignal
federate_accepts n j f (Ltc tag) = Refused WrongSignal
federate_accepts n j f (Tag tag) = accept_grant n f tag
federate_accepts n j f (Msg connection tag value) = accept_message n j f (slice_get n.connections connection) tag value

-- the next event's tag, or FOREVER where nothing is undone
abbrev pub next_event : Federate → LogicalTime
next_event f = unwrap_or (first_tag f.undone) forever

-- this NET was the last one, and no tag was run since
abbrev pub is_told : Option LogicalTime → LogicalTime → Bool
is_told None tag = false
is_told (Some told) tag = is_same told tag

-- NET goes out, unless it was told already
abbrev pub federate_announces : Federate → Outcome Stepped
federate_announces f =
    if is_told f.announced (next_event f)
    then Nothing
    else Done (record { after = record f { announced = Some (next_event f) }; sent = Net (next_event f) ∷ [] })

-- what its reactor makes of what is present at a tag
abbrev pub effect_of : Network → ℕ → Federate → LogicalTime → Effect
effect_of n j f tag = n.effect j f.states (look f.undone tag)

-- what a scheduling makes present
abbrev pub scheduled_at : LogicalTime → Scheduling → PendingEvent
scheduled_at tag s = record { tag = sum_of tag s.delay; slot = s.slot; value = s.value }

-- what a turn schedules, as far as it isn't later than stop
abbrev pub scheduled_by : Network → LogicalTime → Effect → List PendingEvent
scheduled_by n tag effect = filter (λ e. is_at_most e.tag n.stop) (map (scheduled_at tag) effect.schedulings)

-- the message of a value at a connection's port, unless it is later than stop
abbrev pub message_over : Network → LogicalTime → ℕ → Connection → Option ℤ → List Signal
message_over n tag number c None = []
message_over n tag number c (Some value) =
    if is_at_most (sum_of tag c.delay) n.stop then Msg number (sum_of tag c.delay) value ∷ [] else []

-- what goes out over one connection
abbrev pub sent_over : Network → ℕ → LogicalTime → (ℕ → Option ℤ) → ℕ → Connection → List Signal
sent_over n j tag outputs number c = if nat_eq c.source j then message_over n tag number c (outputs c.port) else []

-- the messages of a turn, by the connections' numbers, the first of which is given
abbrev pub messages_from : Network → ℕ → LogicalTime → (ℕ → Option ℤ) → ℕ → List Connection → List Signal
messages_from n j tag outputs number [] = []
messages_from n j tag outputs number (c ∷ rest) =
    sent_over n j tag outputs number c ++ messages_from n j tag outputs (number + 1) rest

-- the row of a turn
abbrev pub row_of_turn : Network → ℕ → Federate → LogicalTime → Row
row_of_turn n j f tag = undivided.row_of_turn n j tag f.states (look f.undone tag)

-- a turn at a tag: its messages go out, then its LTC
abbrev pub turn_at : Network → ℕ → Federate → LogicalTime → Stepped
turn_at n j f tag =
    record {
      after =
          record {
            states = (effect_of n j f tag).states;
            undone = put_all (scheduled_by n tag (effect_of n j f tag)) (drop_up_to tag f.undone);
            granted = f.granted;
            completed = Some tag;
            announced = None;
            rows = f.rows ++ row_of_turn n j f tag ∷ [];
          };
      sent = messages_from n j tag (effect_of n j f tag).outputs 0 n.connections ++ Ltc tag ∷ [];
    }

-- the turn at this tag, if it is granted
abbrev pub advance_to : Network → ℕ → Federate → Option LogicalTime → Outcome Stepped
advance_to n j f None = Nothing
advance_to n j f (Some tag) = if is_reached f.granted tag then Done (turn_at n j f tag) else Nothing

-- the least undone tag is run, if it is granted
abbrev pub federate_advances : Network → ℕ → Federate → Outcome Stepped
federate_advances n j f = advance_to n j f (first_tag f.undone)
