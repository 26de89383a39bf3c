-- The events that one reactor has still to run: a list that strictly rises by tag and slot, with one value for a slot
-- at a tag.
use Rattle.std.specs.Prelude.{ℕ, ℤ, Bool, IsTrue, ◌&&◌, ◌||◌, nat_eq, nat_lt, if◌then◌else◌, List, [], ◌∷◌, filter}
use Rattle.std.specs.Prelude.{Option, None, Some}
use Rattle.tag.specs.LogicalTime.{LogicalTime, is_before, is_same}
use Rattle.network.specs.Event.{Event}
use Rattle.network.specs.Items.{AllPairsByRecursion}

-- something that will be present at a slot
pub record PendingEvent : Type 0 where
  pub tag : LogicalTime
  pub slot : ℕ
  pub value : ℤ

-- an event, once it is known whose it is and no later one can replace it
abbrev pub pending_event_of : Event → PendingEvent
pending_event_of e = record { tag = e.tag; slot = e.slot; value = e.value }

-- by tag, then by slot
abbrev pub is_held_before : PendingEvent → PendingEvent → Bool
is_held_before a b = is_before a.tag b.tag || (is_same a.tag b.tag && nat_lt a.slot b.slot)

-- each is before all that follow
abbrev pub Rises : List PendingEvent → Type 0
Rises undone = AllPairsByRecursion (λ d e. IsTrue (is_held_before d e)) undone

-- for one slot at one tag
abbrev pub is_for_same : PendingEvent → PendingEvent → Bool
is_for_same a b = is_same a.tag b.tag && nat_eq a.slot b.slot

-- with one more event, which replaces an older one for its slot at its tag
abbrev pub put : PendingEvent → List PendingEvent → List PendingEvent
put e [] = e ∷ []
put e (x ∷ rest) =
    if is_held_before e x then e ∷ x ∷ rest else (if is_for_same e x then e ∷ rest else x ∷ put e rest)

-- with these events, put one after the other
abbrev pub put_all : List PendingEvent → List PendingEvent → List PendingEvent
put_all [] undone = undone
put_all (e ∷ rest) undone = put_all rest (put e undone)

-- what is present at a slot at a tag
abbrev pub look : List PendingEvent → LogicalTime → ℕ → Option ℤ
look [] tag slot = None
look (x ∷ rest) tag slot = if is_same x.tag tag && nat_eq x.slot slot then Some x.value else look rest tag slot

-- the least tag
abbrev pub first_tag : List PendingEvent → Option LogicalTime
first_tag [] = None
first_tag (x ∷ rest) = Some x.tag

-- what is later than a tag
abbrev pub drop_up_to : LogicalTime → List PendingEvent → List PendingEvent
drop_up_to tag undone = filter (λ e. is_before tag e.tag) undone
