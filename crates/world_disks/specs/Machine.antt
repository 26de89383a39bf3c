-- A machine of several nodes, in which a step is an event at one node, or no event.
use Rattle.std.specs.Prelude.{◌≡◌, ◌≢◌, List, [], ◌∷◌, Option, Some, IsSome}
use Rattle.node.specs.declared.event.Event.{Event}
use Rattle.node.specs.declared.node_id.NodeId.{NodeId}
use Rattle.world_stations.specs.declared.step.Step.{Step}
use Rattle.world_stations.specs.World.{Occurrence}

-- which event a step is, and at which node, none where it is no event; the world after a step; a node's station in a
-- world; and a station after an event
pub record Machine (World Station : Type 0) : Type 0 where
  pub occurrence : World → Step → Option Occurrence
  pub after : World → Step → World
  pub station : World → NodeId → Station
  pub stepped : Station → Event → Station

-- a step that is an event is one at its node alone:
pub record StepsAreLocal {World Station : Type 0} (m : Machine World Station) : Type 0 where
  -- it stays that event, whatever other step is made before it
  pub stays : (w : World) (step other : Step) (o : Occurrence) → m.occurrence w step ≡ Some o
      → m.occurrence (m.after w other) step ≡ Some o
  -- its node's station takes that event
  pub own : (w : World) (step : Step) (o : Occurrence) → m.occurrence w step ≡ Some o
      → m.station (m.after w step) o.node ≡ m.stepped (m.station w o.node) o.event
  -- all other stations stay as they were
  pub others : (w : World) (step : Step) (o : Occurrence) (node : NodeId) → m.occurrence w step ≡ Some o
      → node ≢ o.node → m.station (m.after w step) node ≡ m.station w node

-- the world after these steps, made one after the other
abbrev pub after_steps : {World Station : Type 0} → Machine World Station → World → List Step → World
after_steps m w [] = w
after_steps m w (step ∷ steps) = after_steps m (m.after w step) steps

-- each of these steps, made one after the other, is an event
abbrev pub AreEvents : {World Station : Type 0} → Machine World Station → World → List Step → Type 0
AreEvents m w [] = Unit {0}
AreEvents m w (step ∷ steps) = IsSome (m.occurrence w step) × AreEvents m (m.after w step) steps
