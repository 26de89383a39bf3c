use Rattle.files_logs.proofs.Going.{within, settled}
use Rattle.files_logs.proofs.laws.settled_logs_are_whole.Goals as goal

pub returns-clause-within : goal.returns-clause-within
returns-clause-within c = λ head bytes log read. within head bytes log read

pub returns-clause-whole : goal.returns-clause-whole
returns-clause-whole c = λ head bytes log read. settled head bytes log read
