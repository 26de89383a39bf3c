-- What is pending in the undivided program, seen slot by slot.
use Rattle.std.specs.Prelude.{◌≡◌, ℕ, ◌<◌, ℤ, false, List, [], ◌∷◌, IsTrue, None, Some}
use Rattle.std.specs.List.{AllByRecursion}
use Rattle.tag.specs.LogicalTime.{LogicalTime}
use Rattle.network.specs.Event.{Event, is_later, present_at}
use Rattle.network.specs.Network.{Network}
use Rattle.network.specs.Undivided.{comes_before}

-- something is present at a slot of this reactor at this tag, and nothing for an earlier turn
pub record IsNext (n : Network) (events : List Event) (reactor : ℕ) (tag : LogicalTime) : Type 0 where
  pub something : (slot : ℕ) × (value : ℤ) × (present_at events reactor tag slot ≡ Some value)
  pub first : (other : ℕ) (earlier : LogicalTime) (slot : ℕ) (value : ℤ) → other < n.reactors
      → present_at events other earlier slot ≡ Some value → comes_before n.rank other earlier reactor tag ≡ false

-- nothing is present at any slot at any tag
abbrev pub IsQuiet : Network → List Event → Type 0
IsQuiet n events =
    (reactor : ℕ) (tag : LogicalTime) (slot : ℕ) → reactor < n.reactors → present_at events reactor tag slot ≡ None

-- the second is for the same slot at the same tag, and its source is later
abbrev pub Replaces : Event → Event → Type 0
Replaces x y = y.reactor ≡ x.reactor → y.tag ≡ x.tag → y.slot ≡ x.slot → IsTrue (is_later y.source x.source)

-- of events for one slot at one tag each has a later source than those before it
abbrev pub AreInOrder : List Event → Type 0
AreInOrder [] = Unit {0}
AreInOrder (x ∷ rest) = AllByRecursion (Replaces x) rest × AreInOrder rest
