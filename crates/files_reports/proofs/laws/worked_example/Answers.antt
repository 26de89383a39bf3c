use Rattle.std.proofs.Common.{refl}
use Rattle.files_reports.proofs.laws.worked_example.Goals as goal

pub returns : goal.returns
returns c = refl
