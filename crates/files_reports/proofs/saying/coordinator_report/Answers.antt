use Rattle.files_reports.proofs.Taken.{coordinator_taken}
use Rattle.files_reports.proofs.saying.coordinator_report.Goals as goal

pub returns-clause-taken : goal.returns-clause-taken
returns-clause-taken c = coordinator_taken c.args.bytes.now c.in_ok-journal.rest.now c.in_ok-journal.journal c.in_ok-journal.ensures.taken
