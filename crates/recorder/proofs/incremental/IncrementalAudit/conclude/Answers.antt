use Rattle.recorder.specs.Audited.{claim_of}
use Rattle.recorder.proofs.Found.{not_complete}
use Rattle.recorder.proofs.incremental.IncrementalAudit.conclude.Goals as goal

pub returns-in-Err-clause-unproved : goal.returns-in-Err-clause-unproved
returns-in-Err-clause-unproved c =
    not_complete
    (claim_of c.args.self c.args.reports.now c.args.coordinator.now)
    c.in-Err.fault (rw c.federate_count.ensures at c.in-Err.ensures)

pub conclude_complete-requires : goal.conclude_complete-requires
conclude_complete-requires c = record { complete = rw c.federate_count.ensures at c.in-Ok.ensures }
