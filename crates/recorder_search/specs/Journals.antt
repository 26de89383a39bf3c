-- When a list of steps agrees with journals, and when no further event can be placed. The journals are a list: the
-- coordinator's, then the federates' by number.
use Rattle.std.specs.Prelude.{◌≡◌, ℕ, zero, suc, ◌+◌, ◌<◌, ◌≤◌, nat_eq, false, if◌then◌else◌, List, [], ◌∷◌, ◌++◌}
use Rattle.std.specs.Prelude.{length, get_or, slice_get, Option, None, Some, IsSome}
use Rattle.std.specs.List.{list_any}
use Rattle.node.specs.declared.event.Event.{Event}
use Rattle.node.specs.declared.node_id.NodeId.{NodeId}
use Rattle.node.specs.declared.node_id.NodeId.TheVariants.{Coordinator, Federate}
use Rattle.world_stations.specs.declared.step.Step.{Step}
use Rattle.world_stations.specs.World.{Occurrence}
use Rattle.world_stations.specs.Kept.{is_forget}
use Rattle.recorder_search.specs.Motion.{Motion, after_all, IsNoStep}
use Rattle.recorder_search.specs.declared.found.Found.{Found}
use Rattle.recorder_search.specs.declared.found.Found.TheVariants.{All as Whole, Stuck}

-- the place of a node's journal
abbrev pub place_of : NodeId → ℕ
place_of Coordinator = 0
place_of (Federate j) = suc j

-- the node of a place
abbrev pub node_at : ℕ → NodeId
node_at zero = Coordinator
node_at (suc j) = Federate j

-- a node's journal, or an empty one where there is none
abbrev pub journal_of : List (List Event) → NodeId → List Event
journal_of journals node = get_or journals (place_of node) []

-- what comes to a node by this, if anything happens
abbrev pub event_at : NodeId → Option Occurrence → List Event
event_at node None = []
event_at node (Some o) = if nat_eq (place_of o.node) (place_of node) then o.event ∷ [] else []

-- all events at a node, where these steps are made one after the other
abbrev pub events_at : {State : Type 0} → Motion State → NodeId → State → List Step → List Event
events_at motion node state [] = []
events_at motion node state (step ∷ steps) =
    event_at node (motion.occurrence state step) ++ events_at motion node (motion.after state step) steps

-- each of these steps, made one after the other, is an event at a node
abbrev pub AreEvents : {State : Type 0} → Motion State → State → List Step → Type 0
AreEvents motion state [] = Unit {0}
AreEvents motion state (step ∷ steps) =
    IsSome (motion.occurrence state step) × AreEvents motion (motion.after state step) steps

-- steps agree with journals: each is an event, no federate forgets, and each node's events are its journal
pub record Agrees {State : Type 0} (motion : Motion State) (initial : State) (steps : List Step)
    (journals : List (List Event)) : Type 0 where
  pub each : AreEvents motion initial steps
  pub none_forgets : list_any is_forget steps ≡ false
  pub events : (node : NodeId) → events_at motion node initial steps ≡ journal_of journals node

-- they agree with prefixes of the journals
pub record Begins {State : Type 0} (motion : Motion State) (initial : State) (steps : List Step)
    (journals : List (List Event)) : Type 0 where
  pub none_forgets : list_any is_forget steps ≡ false
  pub events : (node : NodeId) → (rest : List Event)
      × (journal_of journals node ≡ events_at motion node initial steps ++ rest)

-- after these steps no further event can be placed. This is the first node whose journal isn't used up, and its next
-- event, counted from 1
pub record IsStuck {State : Type 0} (motion : Motion State) (initial : State) (steps : List Step)
    (journals : List (List Event)) (node : NodeId) (event : ℕ) : Type 0 where
  pub begins : Begins motion initial steps journals
  pub earlier : (other : NodeId) → place_of other < place_of node
      → events_at motion other initial steps ≡ journal_of journals other
  pub next : event ≡ length (events_at motion node initial steps) + 1
  pub unread : event ≤ length (journal_of journals node)
  pub none : (other : NodeId) (e : Event)
      → slice_get (journal_of journals other) (length (events_at motion other initial steps)) ≡ Some e →
      IsNoStep motion (after_all motion initial steps) other e

-- what a search may answer, and the state that it leaves
abbrev pub IsFound : {State : Type 0} → Motion State → State → List (List Event) → State → Found → Type 0
IsFound motion initial journals final Whole =
    (steps : List Step) × Agrees motion initial steps journals × (final ≡ after_all motion initial steps)
IsFound motion initial journals final (Stuck node event) =
    (steps : List Step) × IsStuck motion initial steps journals node event × (final ≡ after_all motion initial steps)
