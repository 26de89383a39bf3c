use Rattle.protocol_laws.proofs.LeastTables.{least_table_is_table}
use Rattle.protocol_laws.proofs.least_delays_suffice.Goals as goal

pub returns : goal.returns
returns c = least_table_is_table
