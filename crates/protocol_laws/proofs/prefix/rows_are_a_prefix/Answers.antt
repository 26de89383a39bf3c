use Rattle.protocol_laws.proofs.Computes.{rows_begin, rows_begin_some}
use Rattle.protocol_laws.proofs.prefix.rows_are_a_prefix.Goals as goal

pub returns-clause-some_turns : goal.returns-clause-some_turns
returns-clause-some_turns c = rows_begin_some

pub returns-clause-from_then_on : goal.returns-clause-from_then_on
returns-clause-from_then_on c = rows_begin
