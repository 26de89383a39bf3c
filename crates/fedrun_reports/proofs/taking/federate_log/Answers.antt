use Rattle.std.proofs.Common.{◌≡◌, refl, arith}
use Rattle.files_reports.specs.declared.layout.TheConstants.{COORDINATOR}
use Rattle.fedrun_reports.specs.Files.{of_coordinator}
use Rattle.fedrun_reports.proofs.taking.federate_log.Goals as goal

pub returns-then-log-clause-fault : goal.returns-then-log-clause-fault
returns-then-log-clause-fault c =
    let who : c.in-Ok.log.who ≡ COORDINATOR = grind (arith, c.if-log.true) in
    of_coordinator c.in-Ok.log c.in-Ok.ensures.read who refl
