use Rattle.std.proofs.Common.{refl, subst}
use Rattle.fedrun_reports.specs.Files.{IsOfCoordinator, IsCoordinatorFault}
use Rattle.fedrun_commands.specs.ReportFiles.{coordinator_refused}
use Rattle.fedrun_files.proofs.KnownFiles.{holds_of_file}
use Rattle.fedrun_commands.proofs.auditing.read_coordinator_file.Goals as goal

pub returns-in-Ok-read_coordinator-clause-ok : goal.returns-in-Ok-read_coordinator-clause-ok
returns-in-Ok-read_coordinator-clause-ok g c = (
  c.in-Ok.bytes.items,
  c.in-Ok.ensures.ok,
  subst (λ bytes. IsOfCoordinator c.args.digests.now c.in-Ok-read_coordinator.journal bytes) c.as_slice.ensures.value c.in-Ok-read_coordinator.ensures.read,
)

pub returns-clause-err : goal.returns-clause-err
returns-clause-err g c =
    let known = g.F.Files.contents c.args.files.now c.args.name.now in
    let why = c.in-Err-read_coordinator.why in
    let stands : IsCoordinatorFault c.args.digests.now c.in-Ok.bytes.items why =
    subst (λ bytes. IsCoordinatorFault c.args.digests.now bytes why) c.as_slice.ensures.value c.in-Err-read_coordinator.ensures.fault in
    coordinator_refused c.in-Ok.ensures.asked why refl
    (holds_of_file (λ bytes. IsCoordinatorFault c.args.digests.now bytes why) known c.in-Ok.bytes.items c.in-Ok.ensures.ok stands)
