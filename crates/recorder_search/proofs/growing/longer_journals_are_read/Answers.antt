use Rattle.recorder_search.proofs.Grown.{longer_read}
use Rattle.recorder_search.proofs.growing.longer_journals_are_read.Goals as goal

pub returns : goal.returns
returns g c initial journals longer p grew reading = longer_read g.M.StepMaker.motion initial journals longer p grew reading
