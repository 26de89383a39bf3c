-- Events, and which of several events for one slot at one tag is present there.
use Rattle.std.specs.Prelude.{ℕ, zero, suc, ◌+◌, ℤ, Bool, ◌&&◌, ◌||◌, nat_eq, nat_lt, if◌then◌else◌, List, [], ◌∷◌}
use Rattle.std.specs.Prelude.{◌++◌, filter, find, Option, None, Some}
use Rattle.std.specs.Option.{option_map}
use Rattle.tag.specs.LogicalTime.{LogicalTime, origin, is_before, is_same}

-- where an event comes from: the tag of the turn that made it, and its place in that turn's list of schedulings (0 for
-- an output, and for an external event)
pub record Source : Type 0 where
  pub tag : LogicalTime
  pub place : ℕ

-- something that is to be present at a reactor's slot
pub record Event : Type 0 where
  pub tag : LogicalTime
  pub reactor : ℕ
  pub slot : ℕ
  pub source : Source
  pub value : ℤ

-- an event from outside; no reactor made it, so its source is the first tag
abbrev pub outside : LogicalTime → ℕ → ℕ → ℤ → Event
outside tag reactor slot value =
    record { tag = tag; reactor = reactor; slot = slot; source = record { tag = origin; place = 0 }; value = value }

-- the first is later than the second: by tag, then by place
abbrev pub is_later : Source → Source → Bool
is_later a b = is_before b.tag a.tag || (is_same a.tag b.tag && nat_lt b.place a.place)

-- the event is one of this reactor's at this tag
abbrev pub is_at : ℕ → LogicalTime → Event → Bool
is_at reactor tag e = nat_eq e.reactor reactor && is_same e.tag tag

-- of two events the one with the later source
abbrev pub later_of : Event → Option Event → Event
later_of e None = e
later_of e (Some other) = if is_later other.source e.source then other else e

-- the event with the latest source
abbrev pub latest : List Event → Option Event
latest [] = None
latest (e ∷ rest) = Some (later_of e (latest rest))

-- what is present at a reactor's slot at a tag: the value of the event with the latest source
abbrev pub present_at : List Event → ℕ → LogicalTime → ℕ → Option ℤ
present_at events reactor tag slot =
    option_map (λ e. e.value) (latest (filter (λ e. is_at reactor tag e && nat_eq e.slot slot) events))

-- a slot or a port by number, with the value there
pub record Entry : Type 0 where
  pub place : ℕ
  pub value : ℤ

-- an entry at this place, if there is a value
abbrev pub entry_at : ℕ → Option ℤ → List Entry
entry_at place None = []
entry_at place (Some value) = record { place = place; value = value } ∷ []

-- what is there at the next `count` places from `first` on, in order
abbrev pub listed_from : ℕ → ℕ → (ℕ → Option ℤ) → List Entry
listed_from first zero value_at = []
listed_from first (suc count) value_at = entry_at first (value_at first) ++ listed_from (first + 1) count value_at

-- what is there at the first `count` places, in order
abbrev pub listed : ℕ → (ℕ → Option ℤ) → List Entry
listed count value_at = listed_from 0 count value_at

-- the value of the first entry at a place
abbrev pub value_at : List Entry → ℕ → Option ℤ
value_at entries place = option_map (λ e. e.value) (find (λ e. nat_eq e.place place) entries)
