use Rattle.protocol_laws.proofs.FirstArrivals.{table_bound, one_bound}
use Rattle.protocol_laws.proofs.bounds.the_table_gives_the_bound.Goals as goal

pub returns-clause-table : goal.returns-clause-table
returns-clause-table c = table_bound

pub returns-clause-one : goal.returns-clause-one
returns-clause-one c = one_bound
