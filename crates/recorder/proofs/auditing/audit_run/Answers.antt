use Rattle.recorder.proofs.Found.{not_complete}
use Rattle.recorder.proofs.auditing.audit_run.Goals as goal

pub returns-in-Err-clause-unproved : goal.returns-in-Err-clause-unproved
returns-in-Err-clause-unproved c =
    not_complete
    (record { draft = c.args.plan.now; programs = c.args.programs.now; inputs = c.args.inputs.now; reports = c.args.reports.now; coordinator = c.args.coordinator.now })
    c.in-Err.fault (rw c.federate_count.ensures at c.in-Err.ensures)
