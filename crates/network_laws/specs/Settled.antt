-- The order of turns, prefixes of their rows, and what is settled in the undivided program.
use Rattle.std.specs.Prelude.{◌≡◌, ℕ, ◌+◌, ◌*◌, ◌≤◌, Bool, true, List, ◌++◌, Option, None, Some}
use Rattle.tag.specs.LogicalTime.{LogicalTime, place}
use Rattle.network.specs.declared.limits.TheConstants.{MOST_REACTORS}
use Rattle.network.specs.Event.{Event}
use Rattle.network.specs.Network.{Network}
use Rattle.network.specs.Undivided.{Undivided, Row, comes_before, first_of_turns}

-- one row's turn is before another's
abbrev pub is_row_before : Network → Row → Row → Bool
is_row_before n a b = comes_before n.rank a.reactor a.tag b.reactor b.tag

-- a list that begins with these
abbrev pub BeginsWith : {X : Type 0} → List X → List X → Type 0
BeginsWith {X} all prefix = (rest : List X) × (all ≡ prefix ++ rest)

-- a turn is before that of an event, if there is one
abbrev pub is_ahead_of : Network → ℕ → LogicalTime → Option Event → Bool
is_ahead_of n reactor tag None = true
is_ahead_of n reactor tag (Some e) = comes_before n.rank reactor tag e.reactor e.tag

-- a reactor's turns up to a tag are done: nothing is pending, or the least (tag, rank) pending is later than the
-- reactor's at the tag
abbrev pub is_settled : Network → Undivided → ℕ → LogicalTime → Bool
is_settled n u reactor tag = is_ahead_of n reactor tag (first_of_turns n u.pending)

-- this many turns are enough for a tag: as many for each tag up to it as there are reactors at most
abbrev pub IsEnough : LogicalTime → ℕ → Type 0
IsEnough tag turns = place tag * MOST_REACTORS + MOST_REACTORS ≤ turns
