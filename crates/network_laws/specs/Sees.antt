-- What a reactor should see at a tag according to a trace, which is a history for each reactor.
use Rattle.std.specs.Prelude.{◌≡◌, ℕ, zero, suc, ℤ, List, [], ◌∷◌, ◌++◌, Option, Some}
use Rattle.tag.specs.LogicalTime.{LogicalTime}
use Rattle.network.specs.Event.{Event, present_at}
use Rattle.network.specs.Network.{Network}
use Rattle.network.specs.Undivided.{made_by}
use Rattle.network_laws.specs.History.{Turn, effect_after}

-- the events that a reactor's history makes, those of its oldest turn first
abbrev pub made_in : Network → ℕ → List Turn → List Event
made_in n reactor [] = []
made_in n reactor (turn ∷ earlier) =
    made_in n reactor earlier ++ made_by n reactor turn.tag (effect_after n reactor earlier turn)

-- the events that the histories of the first `count` reactors make
abbrev pub made_by_first : Network → ℕ → (ℕ → List Turn) → List Event
made_by_first n zero trace = []
made_by_first n (suc count) trace = made_by_first n count trace ++ made_in n count (trace count)

-- all events of a trace: those from outside, and what its turns make
abbrev pub events_of : Network → (ℕ → List Turn) → List Event
events_of n trace = n.external ++ made_by_first n n.reactors trace

-- what a reactor should see at its slots at a tag: of the trace's events for a slot the one with the latest source
abbrev pub sees : Network → (ℕ → List Turn) → ℕ → LogicalTime → ℕ → Option ℤ
sees n trace reactor tag = present_at (events_of n trace) reactor tag

-- there is something that it should see
abbrev pub SeesSomething : Network → (ℕ → List Turn) → ℕ → LogicalTime → Type 0
SeesSomething n trace reactor tag = (slot : ℕ) × (value : ℤ) × (sees n trace reactor tag slot ≡ Some value)
