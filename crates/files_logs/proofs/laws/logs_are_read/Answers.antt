use Rattle.files_logs.proofs.Whole.{log_read, ended_read}
use Rattle.files_logs.proofs.laws.logs_are_read.Goals as goal

pub returns-clause-unended : goal.returns-clause-unended
returns-clause-unended c = λ head blocks h. log_read head blocks h

pub returns-clause-ended : goal.returns-clause-ended
returns-clause-ended c = λ head blocks h. ended_read head blocks h
