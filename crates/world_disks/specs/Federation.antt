-- The disks of a federation's nodes, and what is said of them and of the nodes' processes.
use Rattle.std.specs.Prelude.{ℕ, if◌then◌else◌, nat_lt, List, [], Option, None, Some}
use Rattle.network.specs.Undivided.{Row, whole, part}
use Rattle.network_laws.specs.Settled as order
use Rattle.signal.specs.declared.signal.Signal.{Signal}
use Rattle.link.specs.Image.{Image}
use Rattle.plan.specs.declared.draft.Draft.{Draft}
use Rattle.plan.specs.declared.input.Input.{Input}
use Rattle.reactor_program.specs.Behaviour.{Behaviour}
use Rattle.plan_network.specs.Network.{network_of}
use Rattle.node.specs.declared.node_id.NodeId.{NodeId}
use Rattle.node.specs.declared.node_id.NodeId.TheVariants.{Coordinator, Federate}
use Rattle.node.specs.Step.{Station}
use Rattle.node_cores.specs.FederateCore.{FederateNode, federate_core}
use Rattle.node_cores.specs.CoordinatorCore.{CoordinatorNode, coordinator_core}
use Rattle.world_stations.specs.declared.step.Step.{Step}
use Rattle.world_stations.specs.Federation.{Federation, initial_world, rows_at}
use Rattle.world_stations.specs.Taken.{own_end, number_taken, brought_by}
use Rattle.world_disks.specs.Machine.{Machine}
use Rattle.world_disks.specs.Disks.{Disks, Move, nothing_pending, moved, after_moves, live_station}
use Rattle.world_disks.specs.Disks.Move.{Live}
use Rattle.world_disks.specs.Worlds.{NodeStation, world_machine}
use Rattle.world_disks.specs.Worlds.NodeStation.{CoordinatorStation, FederateStation, NoStation}

-- a federation's world, as a machine
abbrev pub federation_machine : Machine Federation (NodeStation CoordinatorNode FederateNode)
federation_machine = world_machine coordinator_core federate_core

-- the disks of a federation after these moves, from the world before the first step on
abbrev pub disks_after : Draft → List Behaviour → List Input → List Move → Disks Federation
disks_after d programs inputs moves =
    after_moves federation_machine (nothing_pending (initial_world d programs inputs)) moves

-- what a node's process has
abbrev pub live_in : Disks Federation → NodeId → NodeStation CoordinatorNode FederateNode
live_in disks node = live_station federation_machine disks node

-- a station as the coordinator's, and as a federate's
abbrev pub coordinator_in : NodeStation CoordinatorNode FederateNode → Option (Station CoordinatorNode)
coordinator_in (CoordinatorStation s) = Some s
coordinator_in (FederateStation s) = None
coordinator_in NoStation = None

abbrev pub federate_in : NodeStation CoordinatorNode FederateNode → Option (Station FederateNode)
federate_in (CoordinatorStation s) = None
federate_in (FederateStation s) = Some s
federate_in NoStation = None

-- what the coordinator's process has
abbrev pub live_coordinator : Disks Federation → Option (Station CoordinatorNode)
live_coordinator disks = coordinator_in (live_in disks Coordinator)

-- what federate j's process has
abbrev pub live_federate : Disks Federation → ℕ → Option (Station FederateNode)
live_federate disks j = federate_in (live_in disks (Federate j))

-- its rows
abbrev pub live_rows : Disks Federation → ℕ → List Row
live_rows disks j = rows_at (live_federate disks j)

-- these rows are a prefix of federate j's part of what the undivided program computes in some number of turns
abbrev pub ArePrefix : Draft → List Behaviour → List Input → ℕ → List Row → Type 0
ArePrefix d programs inputs j rows =
    (turns : ℕ) × order.BeginsWith (part j (whole (network_of d programs inputs) turns)) rows

-- what an end takes, in an incarnation: where the number taken rises, what is delivered meanwhile
abbrev pub taken_between : (incarnation : ℕ) → (before after : Option Image) → List Signal → List Signal
taken_between incarnation before after delivered =
    if nat_lt (number_taken incarnation before) (number_taken incarnation after) then delivered else []

-- what federate j's process takes, in an incarnation, as some process makes this step
abbrev pub newly_taken_live : Disks Federation → ℕ → (incarnation : ℕ) → Step → List Signal
newly_taken_live disks j incarnation step =
    taken_between incarnation (own_end (live_federate disks j))
    (own_end (live_federate (moved federation_machine disks (Live step)) j)) (brought_by disks.world step)
