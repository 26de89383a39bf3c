-- An agenda: the events that one federate has still to run, up to stop.
use Rattle.std.specs.Prelude.{IsTrue, List, [], ◌∷◌, map, filter}
use Rattle.std.specs.List.{AllByRecursion}
use Rattle.tag.specs.LogicalTime.{LogicalTime, forever, is_at_most, is_same, IsFinite}
use Rattle.network.specs.Event.{Entry}
use Rattle.network.specs.Undone.{PendingEvent, pending_event_of, Rises, put_all}
use Rattle.plan_slots.specs.declared.slots.Slots.{Slots}
use Rattle.plan.specs.External.{own_events}

-- what is undone, with nothing later than stop, and what stood before the last events were put
pub record Agenda : Type 0 where
  pub stop : LogicalTime
  pub undone : List PendingEvent
  pub before : List PendingEvent

-- what a federate holds by its slots alone: its startup, where it has one, and all firings of its timers up to stop
abbrev pub own_undone : LogicalTime → Slots → List PendingEvent
own_undone stop s = put_all (map pending_event_of (own_events stop.time 0 s)) []

-- those up to stop
abbrev pub in_time : LogicalTime → List PendingEvent → List PendingEvent
in_time stop events = filter (λ e. is_at_most e.tag stop) events

-- what is present at a tag, by slot
abbrev pub present_in : List PendingEvent → LogicalTime → List Entry
present_in undone tag = map (λ e. record { place = e.slot; value = e.value }) (filter (λ e. is_same e.tag tag) undone)

-- the tag of the first, and FOREVER where there is none
abbrev pub least_in : List PendingEvent → LogicalTime
least_in [] = forever
least_in (e ∷ rest) = e.tag

-- the tag is finite and not later than stop
pub record IsInTime (stop : LogicalTime) (e : PendingEvent) : Type 0 where
  pub finite : IsFinite e.tag
  pub at_most : IsTrue (is_at_most e.tag stop)

-- what is undone strictly rises, and is in time
pub record IsAgenda (a : Agenda) : Type 0 where
  pub rises : Rises a.undone
  pub in_time : AllByRecursion (IsInTime a.stop) a.undone
