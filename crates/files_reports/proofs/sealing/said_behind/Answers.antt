use Rattle.files_reports.specs.File.{headed}
use Rattle.files_reports.proofs.Ends.{one_content}
use Rattle.files_reports.proofs.sealing.said_behind.Goals as goal

pub returns-in-None-clause-fault : goal.returns-in-None-clause-fault
returns-in-None-clause-fault c = (
  c.in_ok-check_name.ensures.named,
  (c.in-Some.content.now, c.in-Some.ensures),
  λ said e. c.in-None.ensures said (one_content c.args.bytes.now c.in-Some.content.now (headed c.args.files.now said) c.in-Some.ensures e),
)
