use Rattle.std.proofs.Common.{replicate, refl}
use Rattle.recorder_search.proofs.Findings.{nothing_read}
use Rattle.recorder_search.proofs.growing.nothing_is_read.Goals as goal

pub returns : goal.returns
returns g c initial journals count =
    nothing_read g.M.StepMaker.motion initial journals count (record { state = initial; read = replicate count 0 }) refl refl
