-- What an agenda keeps, as code: what was put, by tag and slot, and of each timer the firings that are left.
use Rattle.std.specs.Prelude.{◌≡◌, ℕ, ◌<◌, ◌^◌, ◌+◌, ℤ, pos, Bool, false, IsTrue, if◌then◌else◌, not, List, [], ◌∷◌}
use Rattle.std.specs.Prelude.{◌++◌, map, filter, Option, None, Some}
use Rattle.std.specs.List.{AllByRecursion}
use Rattle.std.specs.Ordering.{is_eq}
use Rattle.std.specs.declared.cmp.Ordering.{Ordering}
use Rattle.std.specs.declared.cmp.Ordering.TheVariants.{Less, Greater}
use Rattle.tag.specs.LogicalTime.{LogicalTime, origin, forever, is_at_most, is_before, lesser, IsFinite}
use Rattle.network.specs.Undone.{PendingEvent, Rises, is_for_same, put_all}
use Rattle.plan_slots.specs.declared.slots.Timer.{Timer}
use Rattle.plan.specs.External.{times_from, firing_count}
use Rattle.reactor_agenda.specs.contracts.key.KeyOrd.TheImpl as key_ord
use Rattle.reactor_agenda.specs.declared.key.Key.{Key}
use Rattle.reactor_agenda.specs.declared.undo.Undo.{Undo}
use Rattle.reactor_agenda.specs.declared.firings.Firings.{Firings}
use Rattle.reactor_agenda.specs.Agenda.{least_in}

-- a value for a slot at a tag
abbrev pub held_at : Key × ℤ → PendingEvent
held_at entry = record { tag = entry.0.tag; slot = entry.0.slot; value = entry.1 }

-- what was put, in order
abbrev pub held_in : List (Key × ℤ) → List PendingEvent
held_in entries = map held_at entries

-- each is before all that follow
abbrev pub EachBefore : {X : Type 0} → (X → X → Type 0) → List X → Type 0
EachBefore R [] = Unit {0}
EachBefore R (x ∷ rest) = AllByRecursion (R x) rest × EachBefore R rest

-- the order of keys
abbrev pub key_cmp : Key → Key → Ordering
key_cmp = (key_ord.ghosts).cmp

-- those that come first and the others, in order; the first is among the former
pub record IsQueued (front rest : List (Key × ℤ)) : Type 0 where
  pub rising : Rises (held_in (front ++ rest))
  pub next : front ≡ [] → rest ≡ []

-- how a key stands to the first, and Less where there is none
abbrev pub to_first : Key → List (Key × ℤ) → Ordering
to_first key [] = Less
to_first key (e ∷ rest) = key_cmp key e.0

-- how a key stands to the last, and Greater where there is none
abbrev pub to_last : Key → List (Key × ℤ) → Ordering
to_last key [] = Greater
to_last key (e ∷ []) = key_cmp key e.0
to_last key (e ∷ x ∷ rest) = to_last key (x ∷ rest)

-- none of these is for a key
abbrev pub AreOthers : Key → List (Key × ℤ) → Type 0
AreOthers key entries = AllByRecursion (λ e. is_eq (key_cmp key e.0) ≡ false) entries

-- startup, where the flag is set
abbrev pub startup_in : Bool → List PendingEvent
startup_in b = if b then record { tag = origin; slot = 0; value = pos 0 } ∷ [] else []

-- a timer's firing
abbrev pub firing : ℕ → ℕ → PendingEvent
firing slot time = record { tag = record { time = time; microstep = 0 }; slot = slot; value = pos 0 }

-- the firings of a timer that are left
abbrev pub firings_of : Firings → List PendingEvent
firings_of f = map (firing f.slot) (times_from f.next f.period f.left)

-- those of all timers
abbrev pub all_firings : List Firings → List PendingEvent
all_firings [] = []
all_firings (f ∷ rest) = firings_of f ++ all_firings rest

-- the timers, the first of which has this slot, before any firing
abbrev pub timers_from : ℕ → ℕ → List Timer → List Firings
timers_from stop slot [] = []
timers_from stop slot (t ∷ rest) =
    record { slot = slot; next = t.offset; period = t.period; left = firing_count stop t }
    ∷ timers_from stop (slot + 1) rest

-- what is undone: what was put, over the firings that are left
abbrev pub undone_of : List PendingEvent → List Firings → List PendingEvent
undone_of events timers = put_all events (put_all (all_firings timers) [])

-- what is there for a slot at a tag has the value that stood there, or goes where none stood there
abbrev pub undo_to : Key → Option ℤ → List PendingEvent → List PendingEvent
undo_to key None events = filter (λ e. not (is_for_same (held_at (key, pos 0)) e)) events
undo_to key (Some value) events =
    map (λ e. if is_for_same (held_at (key, value)) e then held_at (key, value) else e) events

-- what stood before all of these were done, one after the other
abbrev pub undo_all : List Undo → List PendingEvent → List PendingEvent
undo_all [] events = events
undo_all (u ∷ rest) events = undo_to u.key u.was (undo_all rest events)

-- the first is not later than a tag
abbrev pub has_due : LogicalTime → List PendingEvent → Bool
has_due tag [] = false
has_due tag (e ∷ rest) = is_at_most e.tag tag

-- the first is before a tag
abbrev pub has_before : LogicalTime → List PendingEvent → Bool
has_before tag [] = false
has_before tag (e ∷ rest) = is_before e.tag tag

-- each is less than all that follow
abbrev pub Climbs : List ℕ → Type 0
Climbs times = EachBefore (λ time later. time < later) times

-- a timer's firings are apart, and in range
pub record IsTimer (f : Firings) : Type 0 where
  pub climbs : Climbs (times_from f.next f.period f.left)
  pub below : AllByRecursion (λ time. time < 2 ^ 62) (times_from f.next f.period f.left)
  pub period : f.period < 2 ^ 62

-- the tag is finite and not later than stop
pub record IsFit (stop : LogicalTime) (e : PendingEvent) : Type 0 where
  pub finite : IsFinite e.tag
  pub at_most : IsTrue (is_at_most e.tag stop)

-- the tag of the least firing that is left, and FOREVER where there is none
abbrev pub first_firing : List Firings → LogicalTime
first_firing [] = forever
first_firing (f ∷ rest) = lesser (least_in (firings_of f)) (first_firing rest)

-- what an agenda keeps is in range and not later than stop, also what can be taken back
pub record IsKept (stop : LogicalTime) (events before : List PendingEvent) (timers : List Firings)
    (next_firing : LogicalTime) : Type 0 where
  pub events_fit : AllByRecursion (IsFit stop) events
  pub before_fit : AllByRecursion (IsFit stop) before
  pub timers_hold : AllByRecursion IsTimer timers
  pub firings_fit : AllByRecursion (IsFit stop) (all_firings timers)
  pub next_is : next_firing ≡ first_firing timers
