use Rattle.files_reports.proofs.Taken.{federate_taken}
use Rattle.files_reports.proofs.saying.federate_report.Goals as goal

pub returns-clause-taken : goal.returns-clause-taken
returns-clause-taken c =
    federate_taken c.args.federate c.args.bytes.now c.in_ok-rows.rest.now c.in_ok-journal.rest.now c.in_ok-rows.rows c.in_ok-journal.journal c.requires
    c.in_ok-rows.ensures.taken c.in_ok-journal.ensures.taken
