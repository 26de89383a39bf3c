-- How far a search has read the journals.
use Rattle.std.specs.Prelude.{◌≡◌, ℕ, ◌+◌, ◌-◌, ◌≤◌, ◌<◌, Bool, true, false, List, [], ◌∷◌, ◌++◌, length, get_or}
use Rattle.std.specs.Prelude.{slice_get, take, Option, None, Some}
use Rattle.std.specs.List.{list_any}
use Rattle.node.specs.declared.event.Event.{Event}
use Rattle.node.specs.declared.node_id.NodeId.{NodeId}
use Rattle.world_stations.specs.declared.step.Step.{Step}
use Rattle.world_stations.specs.Kept.{is_forget}
use Rattle.recorder_search.specs.Motion.{Motion, after_all, IsNoStep}
use Rattle.recorder_search.specs.Journals.{place_of, node_at, journal_of, events_at, AreEvents}

-- the step maker's state, and how many events of each journal are read
pub record Position (State : Type 0) : Type 0 where
  pub state : State
  pub read : List ℕ

-- these steps are made, each is an event, and each node's events are what is read of its journal
pub record HasRead {State : Type 0} (motion : Motion State) (initial : State) (journals : List (List Event))
    (p : Position State) (steps : List Step) : Type 0 where
  pub made : p.state ≡ after_all motion initial steps
  pub each : AreEvents motion initial steps
  pub none_forgets : list_any is_forget steps ≡ false
  pub within : (place : ℕ) → get_or p.read place 0 ≤ length (get_or journals place [])
  pub events : (node : NodeId) → events_at motion node initial steps
      ≡ take (get_or p.read (place_of node) 0) (journal_of journals node)

-- some steps are made so
abbrev pub IsReading : {State : Type 0} → Motion State → State → List (List Event) → Position State → Type 0
IsReading motion initial journals p = (steps : List Step) × HasRead motion initial journals p steps

-- each of the longer journals has what the journal at its place has, and then perhaps more
abbrev pub GrewTo : List (List Event) → List (List Event) → Type 0
GrewTo journals longer = (place : ℕ) → (rest : List Event) × (get_or longer place [] ≡ get_or journals place [] ++ rest)

-- how many events aren't read
abbrev pub unread : List (List Event) → List ℕ → ℕ
unread [] read = 0
unread (journal ∷ journals) [] = length journal + unread journals []
unread (journal ∷ journals) (n ∷ read) = length journal - n + unread journals read

-- no step is the next event of the node of a place
abbrev pub IsBlocked : {State : Type 0} → Motion State → List (List Event) → Position State → ℕ → Type 0
IsBlocked motion journals p place =
    (e : Event) → slice_get (get_or journals place []) (get_or p.read place 0) ≡ Some e
    → IsNoStep motion p.state (node_at place) e

-- reading went on from a position to a later one, or stayed where it was
pub record GoesOn {State : Type 0} (motion : Motion State) (journals : List (List Event))
    (before after : Position State) (moved : Bool) : Type 0 where
  pub reading : (initial : State) → IsReading motion initial journals before → IsReading motion initial journals after
  pub further : moved ≡ true → unread journals after.read < unread journals before.read
  pub still : moved ≡ false → after ≡ before

-- the first node whose journal isn't read to its end, and its next event, counted from 1. None where all are read
abbrev pub IsFirstUnread : List (List Event) → List ℕ → Option (NodeId × ℕ) → Type 0
IsFirstUnread journals read None = (place : ℕ) → length (get_or journals place []) ≤ get_or read place 0
IsFirstUnread journals read (Some next) =
    ((place : ℕ) → place < place_of next.0 → length (get_or journals place []) ≤ get_or read place 0)
    × (next.1 ≡ get_or read (place_of next.0) 0 + 1)
    × (next.1 ≤ length (journal_of journals next.0))
