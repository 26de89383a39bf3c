-- Histories: the turns that a reactor took, newest first, and what replaying them gives.
use Rattle.std.specs.Prelude.{ℕ, ℤ, Bool, false, ◌||◌, nat_eq, if◌then◌else◌, List, [], ◌∷◌, ◌++◌, map, reverse}
use Rattle.std.specs.Prelude.{AllPairs, IsTrue, Option}
use Rattle.tag.specs.LogicalTime.{LogicalTime, is_before, is_at_most, is_same}
use Rattle.network.specs.Event.{value_at}
use Rattle.network.specs.Network.{Network, Effect}
use Rattle.network.specs.Undivided.{Row, row_of_turn, part}

-- a turn: at which tag, and what was present at the reactor's slots
pub record Turn : Type 0 where
  pub tag : LogicalTime
  pub present : ℕ → Option ℤ

-- the tags of a history rise: each turn is later than all before it
abbrev pub HasRisingTags : List Turn → Type 0
HasRisingTags history = AllPairs (λ later earlier. IsTrue (is_before earlier.tag later.tag)) history

-- the turn of a row
abbrev pub turn_of_row : Row → Turn
turn_of_row row = record { tag = row.tag; present = value_at row.inputs }

-- the history of one reactor's rows
abbrev pub history_of : List Row → List Turn
history_of rows = reverse (map turn_of_row rows)

-- a history for each reactor: those of rows of all reactors
abbrev pub trace_of : List Row → ℕ → List Turn
trace_of rows reactor = history_of (part reactor rows)

-- a trace with one more turn of a reactor
abbrev pub with_turn : (ℕ → List Turn) → ℕ → Turn → ℕ → List Turn
with_turn trace reactor turn other = if nat_eq reactor other then turn ∷ trace other else trace other

-- the states after a history
abbrev pub states_after : Network → ℕ → List Turn → List ℤ
states_after n reactor [] = n.initial reactor
states_after n reactor (turn ∷ earlier) = (n.effect reactor (states_after n reactor earlier) turn.present).states

-- what a turn makes after a history
abbrev pub effect_after : Network → ℕ → List Turn → Turn → Effect
effect_after n reactor earlier turn = n.effect reactor (states_after n reactor earlier) turn.present

-- there is a turn at this tag
abbrev pub has_turn_at : LogicalTime → List Turn → Bool
has_turn_at tag [] = false
has_turn_at tag (turn ∷ earlier) = is_same turn.tag tag || has_turn_at tag earlier

-- a history back to its newest turn at a tag that passes
abbrev pub back_to : (LogicalTime → Bool) → List Turn → List Turn
back_to test [] = []
back_to test (turn ∷ earlier) = if test turn.tag then turn ∷ earlier else back_to test earlier

-- a history up to a tag
abbrev pub up_to : LogicalTime → List Turn → List Turn
up_to tag history = back_to (λ other. is_at_most other tag) history

-- the row of a turn after a history
abbrev pub row_after : Network → ℕ → List Turn → Turn → Row
row_after n reactor earlier turn = row_of_turn n reactor turn.tag (states_after n reactor earlier) turn.present

-- the rows of a history, oldest first
abbrev pub rows_of : Network → ℕ → List Turn → List Row
rows_of n reactor [] = []
rows_of n reactor (turn ∷ earlier) = rows_of n reactor earlier ++ row_after n reactor earlier turn ∷ []
