use Rattle.node_cores.specs.FederateCore.{federate_core}
use Rattle.node_cores.specs.CoordinatorCore.{coordinator_core}
use Rattle.plan.specs.Federation.{federate_count}
use Rattle.world_stations.specs.declared.limits.TheConstants.{LINK_ROOM}
use Rattle.world_stations.specs.Federation.{initial_coordinator, initial_member}
use Rattle.fedrun_frames.proofs.Acknowledging.{acknowledged_after}
use Rattle.fedrun_frames.proofs.laws.what_is_acknowledged_was_taken.Goals as goal

pub returns : goal.returns
returns c = λ d programs inputs steps.
    acknowledged_after coordinator_core federate_core (initial_coordinator d) (federate_count d) (initial_member d programs inputs) LINK_ROOM steps
