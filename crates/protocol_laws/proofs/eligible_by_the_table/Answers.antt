use Rattle.protocol_laws.proofs.Eligibility.{eligible_by_table, paths_by_table, connections_by_test}
use Rattle.protocol_laws.proofs.eligible_by_the_table.Goals as goal

pub returns-clause-paths : goal.returns-clause-paths
returns-clause-paths c = paths_by_table

pub returns-clause-connections : goal.returns-clause-connections
returns-clause-connections c = connections_by_test

pub returns-clause-eligible : goal.returns-clause-eligible
returns-clause-eligible c = eligible_by_table
