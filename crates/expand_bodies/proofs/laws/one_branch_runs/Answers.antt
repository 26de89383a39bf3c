use Rattle.expand_bodies.proofs.Branches.{one_runs}
use Rattle.expand_bodies.proofs.laws.one_branch_runs.Goals as goal

pub returns : goal.returns
returns c = one_runs
