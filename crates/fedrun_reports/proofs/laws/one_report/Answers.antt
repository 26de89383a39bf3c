use Rattle.fedrun_reports.proofs.One.{one_report}
use Rattle.fedrun_reports.proofs.laws.one_report.Goals as goal

pub returns : goal.returns
returns c = λ files s report other bytes h k. one_report files s report other bytes h k
