use Rattle.files_reports.proofs.AllAgain.{said_again}
use Rattle.files_reports.proofs.laws.said_is_read.Goals as goal

pub returns : goal.returns
returns c = λ said h. said_again said h
