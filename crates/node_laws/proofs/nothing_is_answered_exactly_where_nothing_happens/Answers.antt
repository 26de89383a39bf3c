use Rattle.std.proofs.Common.{true, false}
use Rattle.node_cores.specs.FederateCore.{federate_core}
use Rattle.node_cores.specs.CoordinatorCore.{coordinator_core}
use Rattle.node_laws.proofs.Exact.{step_exact}
use Rattle.node_laws.proofs.Acting.{federate_acts, coordinator_acts}
use Rattle.node_laws.proofs.nothing_is_answered_exactly_where_nothing_happens.Goals as goal

pub returns-clause-federate : goal.returns-clause-federate
returns-clause-federate c s event = step_exact federate_core federate_acts false s event

pub returns-clause-coordinator : goal.returns-clause-coordinator
returns-clause-coordinator c s event = step_exact coordinator_core coordinator_acts true s event
