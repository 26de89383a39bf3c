-- Nodes with disks: what the disks keep, what the processes have made since, and what a kill leaves of it.
use Rattle.std.specs.Prelude.{ℕ, Bool, true, false, if◌then◌else◌, nat_eq, List, [], ◌∷◌, ◌++◌, take, drop}
use Rattle.std.specs.Prelude.{map, Option, None, Some}
use Rattle.node.specs.declared.event.Event.{Event}
use Rattle.node.specs.declared.node_id.NodeId.{NodeId}
use Rattle.node.specs.declared.node_id.NodeId.TheVariants.{Coordinator, Federate}
use Rattle.world_stations.specs.declared.step.Step.{Step}
use Rattle.world_stations.specs.World.{Occurrence}
use Rattle.world_disks.specs.Machine.{Machine, after_steps}

-- a step that a node's process has made and that its disk doesn't keep yet, with its event
pub record PendingStep : Type 0 where
  pub step : Step
  pub event : Event

-- the steps alone
abbrev pub steps_of : List PendingStep → List Step
steps_of pending = map (λ made. made.step) pending

-- the events alone
abbrev pub events_of : List PendingStep → List Event
events_of pending = map (λ made. made.event) pending

-- the world of all that disks keep; and for each node what its process has made since, oldest first
pub record Disks (World : Type 0) : Type 0 where
  pub world : World
  pub pending : NodeId → List PendingStep

-- disks that keep this world, of which nothing is pending
abbrev pub nothing_pending : {World : Type 0} → World → Disks World
nothing_pending w = record { world = w; pending = λ node. [] }

-- what may happen next: a process makes a step; a node's disk keeps the first of its pending steps, this many; a node's
-- process is killed, and begun again from what its disk keeps
pub data Move : Type 0 where
  Live : (step : Step) → Move
  Keep : (node : NodeId) → (count : ℕ) → Move
  Crash : (node : NodeId) → Move

-- whether two nodes are the same
abbrev pub same_node : NodeId → NodeId → Bool
same_node Coordinator Coordinator = true
same_node Coordinator (Federate k) = false
same_node (Federate j) Coordinator = false
same_node (Federate j) (Federate k) = nat_eq j k

-- one node has these steps pending, each other what it had
abbrev pub with_pending : (NodeId → List PendingStep) → NodeId → List PendingStep → NodeId → List PendingStep
with_pending pending node steps other = if same_node other node then steps else pending other

-- a process has made a step, if that is an event in the world that disks keep: so a frame comes only where its sender's
-- disk keeps what it was sent for
abbrev pub with_made : {World : Type 0} → Disks World → Step → Option Occurrence → Disks World
with_made d step None = d
with_made d step (Some o) =
    record d {
      pending = with_pending d.pending o.node (d.pending o.node ++ record { step = step; event = o.event } ∷ []);
    }

-- the disks after a move. A kill changes nothing of the world that they keep
abbrev pub moved : {World Station : Type 0} → Machine World Station → Disks World → Move → Disks World
moved m d (Live step) = with_made d step (m.occurrence d.world step)
moved m d (Keep node count) =
    record {
      world = after_steps m d.world (steps_of (take count (d.pending node)));
      pending = with_pending d.pending node (drop count (d.pending node));
    }
moved m d (Crash node) = record d { pending = with_pending d.pending node [] }

-- the disks after these moves, one after the other
abbrev pub after_moves : {World Station : Type 0} → Machine World Station → Disks World → List Move → Disks World
after_moves m d [] = d
after_moves m d (move ∷ moves) = after_moves m (moved m d move) moves

-- the replay of a journal: a station after its events, one after the other
abbrev pub replay : {World Station : Type 0} → Machine World Station → Station → List Event → Station
replay m s [] = s
replay m s (event ∷ events) = replay m (m.stepped s event) events

-- what a node's process has: its station in the world that disks keep, after all that is pending
abbrev pub live_station : {World Station : Type 0} → Machine World Station → Disks World → NodeId → Station
live_station m d node = replay m (m.station d.world node) (events_of (d.pending node))

-- what comes to a node by this, if anything happens
abbrev pub event_at : NodeId → Option Occurrence → List Event
event_at node None = []
event_at node (Some o) = if same_node node o.node then o.event ∷ [] else []

-- a node's journal: all events at it, where these steps are made one after the other
abbrev pub events_at : {World Station : Type 0} → Machine World Station → NodeId → World → List Step → List Event
events_at m node w [] = []
events_at m node w (step ∷ steps) = event_at node (m.occurrence w step) ++ events_at m node (m.after w step) steps
