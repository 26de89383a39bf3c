use Rattle.node_laws.proofs.OverPaths.{rule_over_paths}
use Rattle.node_laws.proofs.TagsSent.{step_over_paths}
use Rattle.node_laws.proofs.granting.the_coordinator_grants_over_all_paths.Goals as goal

pub returns-clause-rule : goal.returns-clause-rule
returns-clause-rule c = rule_over_paths

pub returns-clause-step : goal.returns-clause-step
returns-clause-step c = step_over_paths
