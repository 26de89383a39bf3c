-- How a step maker moves, and what it answers when an event is to be placed.
use Rattle.std.specs.Prelude.{◌≡◌, Bool, true, List, [], ◌∷◌, Option, None, Some}
use Rattle.node.specs.declared.event.Event.{Event}
use Rattle.node.specs.declared.node_id.NodeId.{NodeId}
use Rattle.world_stations.specs.declared.step.Step.{Step}
use Rattle.world_stations.specs.World.{Occurrence}

-- which event a step is, at which node, in a state, none where it is no event; and the state after the step
pub record Motion (State : Type 0) : Type 0 where
  pub occurrence : State → Step → Option Occurrence
  pub after : State → Step → State

-- the state after steps, made one after the other
abbrev pub after_all : {State : Type 0} → Motion State → State → List Step → State
after_all motion state [] = state
after_all motion state (step ∷ steps) = after_all motion (motion.after state step) steps

-- a step is this event at this node
abbrev pub IsEvent : {State : Type 0} → Motion State → State → Step → NodeId → Event → Type 0
IsEvent motion state step node event = motion.occurrence state step ≡ Some (record { node = node; event = event })

-- no step is this event at this node
abbrev pub IsNoStep : {State : Type 0} → Motion State → State → NodeId → Event → Type 0
IsNoStep motion state node event = (step : Step) → ¬ IsEvent motion state step node event

-- an event at a node is placed by a step that is made; where none is found nothing changes, and an exact search misses
-- none
abbrev pub Placed : {State : Type 0} → Motion State → NodeId → Event → (exact : Bool) → State → State
    → Option Step → Type 0
Placed motion node event exact before after (Some step) =
    IsEvent motion before step node event × (after ≡ motion.after before step)
Placed motion node event exact before after None = (after ≡ before) × (exact ≡ true → IsNoStep motion before node event)
