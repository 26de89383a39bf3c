use Rattle.node_cores.specs.FederateCore.{federate_core}
use Rattle.node_cores.specs.CoordinatorCore.{coordinator_core}
use Rattle.plan.specs.Federation.{federate_count}
use Rattle.world_stations.specs.declared.limits.TheConstants.{LINK_ROOM}
use Rattle.world_stations.specs.Federation.{initial_coordinator, initial_member}
use Rattle.world_stations.proofs.InOrder.{taken_in_order}
use Rattle.world_stations.proofs.world_laws.what_is_taken_was_offered.Goals as goal

pub returns-clause-nodes : goal.returns-clause-nodes
returns-clause-nodes c st = λ is_coordinator count federate_at room steps. taken_in_order c.H.Node.core c.M.Node.core is_coordinator count federate_at room steps

pub returns-clause-federation : goal.returns-clause-federation
returns-clause-federation c st = λ d programs inputs steps. taken_in_order coordinator_core federate_core (initial_coordinator d) (federate_count d) (initial_member d programs inputs) LINK_ROOM steps
