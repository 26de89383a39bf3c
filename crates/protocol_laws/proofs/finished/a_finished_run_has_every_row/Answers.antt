use Rattle.protocol_laws.proofs.Ending.{ends_quiet}
use Rattle.protocol_laws.proofs.Computes.{quiet_has_every_row, quiet_has_just_these}
use Rattle.protocol_laws.proofs.finished.a_finished_run_has_every_row.Goals as goal

pub returns-clause-none_missing : goal.returns-clause-none_missing
returns-clause-none_missing c = λ n table rules lawful facts safe moves ends. quiet_has_every_row n table rules lawful facts safe moves (λ j there. ends_quiet n table rules lawful facts safe moves j (ends j there))

pub returns-clause-no_other : goal.returns-clause-no_other
returns-clause-no_other c = λ n table rules lawful facts safe moves ends. quiet_has_just_these n table rules lawful facts safe moves (λ j there. ends_quiet n table rules lawful facts safe moves j (ends j there))
