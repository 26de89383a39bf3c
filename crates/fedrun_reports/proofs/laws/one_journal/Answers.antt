use Rattle.fedrun_reports.proofs.One.{one_journal}
use Rattle.fedrun_reports.proofs.laws.one_journal.Goals as goal

pub returns : goal.returns
returns c = λ files journal other bytes h k. one_journal files journal other bytes h k
