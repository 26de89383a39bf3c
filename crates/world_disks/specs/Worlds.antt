-- A world of any nodes, as a machine whose steps are events at one node each. To forget is no event, so no disk keeps
-- that a node forgot.
use Rattle.std.specs.Prelude.{true, false, Option, None, Some, slice_get}
use Rattle.node.specs.declared.event.Event.{Event}
use Rattle.node.specs.declared.node_id.NodeId.{NodeId}
use Rattle.node.specs.declared.node_id.NodeId.TheVariants.{Coordinator, Federate}
use Rattle.node.specs.Core.{Core}
use Rattle.node.specs.Step.{Station, Answer, Silent, step_of}
use Rattle.world_stations.specs.World.{World, occurrence_of, applied}
use Rattle.world_disks.specs.Machine.{Machine}

-- the station of some node, or of none
pub data NodeStation (OfCoordinator OfFederate : Type 0) : Type 0 where
  CoordinatorStation : (station : Station OfCoordinator) → NodeStation OfCoordinator OfFederate
  FederateStation : (station : Station OfFederate) → NodeStation OfCoordinator OfFederate
  NoStation : NodeStation OfCoordinator OfFederate

-- a federate's station, if there is such a federate
abbrev pub federate_station : {OfCoordinator OfFederate : Type 0} → Option (Station OfFederate)
    → NodeStation OfCoordinator OfFederate
federate_station None = NoStation
federate_station (Some s) = FederateStation s

-- a node's station in a world
abbrev pub station_in : {OfCoordinator OfFederate : Type 0} → World OfCoordinator OfFederate → NodeId
    → NodeStation OfCoordinator OfFederate
station_in w Coordinator = CoordinatorStation w.coordinator
station_in w (Federate j) = federate_station (slice_get w.federates j)

-- a node's station after an event: what its desk makes of it
abbrev pub stepped_by : {OfCoordinator OfFederate CoordinatorRow Row : Type 0} → Core OfCoordinator CoordinatorRow
    → Core OfFederate Row → NodeStation OfCoordinator OfFederate → Event → NodeStation OfCoordinator OfFederate
stepped_by coordinator federate (CoordinatorStation s) e = CoordinatorStation (step_of coordinator true s e).station
stepped_by coordinator federate (FederateStation s) e = FederateStation (step_of federate false s e).station
stepped_by coordinator federate NoStation e = NoStation

-- what it answers
abbrev pub answered_by : {OfCoordinator OfFederate CoordinatorRow Row : Type 0} → Core OfCoordinator CoordinatorRow
    → Core OfFederate Row → NodeStation OfCoordinator OfFederate → Event → Answer
answered_by coordinator federate (CoordinatorStation s) e = (step_of coordinator true s e).answer
answered_by coordinator federate (FederateStation s) e = (step_of federate false s e).answer
answered_by coordinator federate NoStation e = Silent

-- the machine
abbrev pub world_machine : {OfCoordinator OfFederate CoordinatorRow Row : Type 0} → Core OfCoordinator CoordinatorRow
    → Core OfFederate Row → Machine (World OfCoordinator OfFederate) (NodeStation OfCoordinator OfFederate)
world_machine coordinator federate =
    record {
      occurrence = occurrence_of;
      after = λ w step. (applied coordinator federate w step).world;
      station = station_in;
      stepped = stepped_by coordinator federate;
    }
