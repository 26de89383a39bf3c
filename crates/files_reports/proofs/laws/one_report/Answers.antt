use Rattle.files_reports.proofs.Files.{one_report_in}
use Rattle.files_reports.proofs.laws.one_report.Goals as goal

pub returns : goal.returns
returns c = λ files said other bytes h k. one_report_in files said other bytes h k
