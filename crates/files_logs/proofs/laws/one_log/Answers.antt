use Rattle.files_logs.proofs.OneLog.{one_log}
use Rattle.files_logs.proofs.laws.one_log.Goals as goal

pub returns : goal.returns
returns c = λ files who rules bytes log other h k. one_log files who rules bytes log other h k
