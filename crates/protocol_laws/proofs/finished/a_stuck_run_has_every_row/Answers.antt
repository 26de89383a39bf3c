use Rattle.protocol_laws.proofs.LeastTables.{least_table_is_table}
use Rattle.protocol_laws.proofs.Stuck.{stuck_quiet}
use Rattle.protocol_laws.proofs.Computes.{quiet_has_every_row, quiet_has_just_these}
use Rattle.protocol_laws.proofs.finished.a_stuck_run_has_every_row.Goals as goal

pub returns-clause-none_missing : goal.returns-clause-none_missing
returns-clause-none_missing c = λ n table rules lawful least safe full moves stuck. quiet_has_every_row n table rules lawful (least_table_is_table n table lawful least) safe moves (stuck_quiet n table rules lawful least safe full moves stuck)

pub returns-clause-no_other : goal.returns-clause-no_other
returns-clause-no_other c = λ n table rules lawful least safe full moves stuck. quiet_has_just_these n table rules lawful (least_table_is_table n table lawful least) safe moves (stuck_quiet n table rules lawful least safe full moves stuck)
