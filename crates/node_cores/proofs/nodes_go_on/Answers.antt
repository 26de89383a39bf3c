use Rattle.node_cores.proofs.GoingOn.{federates_go_on, coordinators_go_on}
use Rattle.node_cores.proofs.nodes_go_on.Goals as goal

pub returns-clause-federate : goal.returns-clause-federate
returns-clause-federate c = federates_go_on

pub returns-clause-coordinator : goal.returns-clause-coordinator
returns-clause-coordinator c = coordinators_go_on
