use Rattle.std.proofs.Common.{refl}
use Rattle.fedrun_reports.specs.Files.{by_log}
use Rattle.fedrun_reports.proofs.taking.read_coordinator.Goals as goal

pub returns-in-Ok-clause-read : goal.returns-in-Ok-clause-read
returns-in-Ok-clause-read c = by_log c.in-Ok.log c.in-Ok.ensures.read refl
