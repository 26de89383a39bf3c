use Rattle.expand_bodies.proofs.Branches.{body_runs}
use Rattle.expand_bodies.proofs.laws.lines_do_what_the_body_says.Goals as goal

pub returns : goal.returns
returns c = body_runs
