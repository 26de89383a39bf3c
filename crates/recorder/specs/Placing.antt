-- Which step an event at a node can be; and a federation's world as what a search moves: what it was made from, and its
-- steps.
use Rattle.std.specs.Prelude.{ℕ, zero, suc, nat_lt, if◌then◌else◌, List, [], Option, None, Some}
use Rattle.plan.specs.declared.draft.Draft.{Draft}
use Rattle.plan.specs.declared.input.Input.{Input}
use Rattle.reactor_program.specs.Behaviour.{Behaviour}
use Rattle.node.specs.declared.event.Event.{Event}
use Rattle.node.specs.declared.event.Event.TheVariants as event
use Rattle.node.specs.declared.node_id.NodeId.{NodeId}
use Rattle.node.specs.declared.node_id.NodeId.TheVariants.{Coordinator, Federate}
use Rattle.world_stations.specs.declared.dir.Dir.{Dir}
use Rattle.world_stations.specs.declared.dir.Dir.TheVariants.{Up, Down}
use Rattle.world_stations.specs.declared.step.Step.{Step}
use Rattle.world_stations.specs.declared.step.Step.TheVariants.{Resend, Reconnect, Announce, Advance}
use Rattle.world_stations.specs.World.{occurrence_of}
use Rattle.world.specs.World.{WorldView, stations_of, with_step}
use Rattle.recorder_search.specs.Motion.{Motion}

-- a world as a step maker: each step is an event of its definition
abbrev pub world_motion : Motion WorldView
world_motion = record { occurrence = λ w step. occurrence_of (stations_of w) step; after = with_step }

-- a federation: its world before the first step
abbrev pub initial_of : Draft → List Behaviour → List Input → WorldView
initial_of draft programs inputs = record { draft = draft; programs = programs; inputs = inputs; steps = [] }

-- the direction in which frames come to a node from a peer
abbrev pub direction_to : NodeId → ℕ → Option Dir
direction_to Coordinator peer = Some (Up peer)
direction_to (Federate j) zero = Some (Down j)
direction_to (Federate j) (suc peer) = None

-- a step, if there is such a federate
abbrev pub step_if : ℕ → ℕ → Step → Option Step
step_if count j step = if nat_lt j count then Some step else None

-- to a federate's one peer, if it is that
abbrev pub to_peer : ℕ → Option Step → Option Step
to_peer zero step = step
to_peer (suc peer) step = None

-- among this many federates, the one step that is this event at this node, where no frame comes
abbrev pub step_alone : ℕ → NodeId → Event → Option Step
step_alone count node (event.Frame peer frame) = None
step_alone count Coordinator (event.Resend peer) = step_if count peer (Resend (Down peer))
step_alone count Coordinator (event.Hello peer) = step_if count peer (Reconnect (Down peer))
step_alone count Coordinator event.Announce = None
step_alone count Coordinator event.Advance = None
step_alone count (Federate j) (event.Resend peer) = to_peer peer (step_if count j (Resend (Up j)))
step_alone count (Federate j) (event.Hello peer) = to_peer peer (step_if count j (Reconnect (Up j)))
step_alone count (Federate j) event.Announce = step_if count j (Announce j)
step_alone count (Federate j) event.Advance = step_if count j (Advance j)
