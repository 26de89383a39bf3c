use Rattle.world_progress.proofs.Runs.{few_moves}
use Rattle.world_progress.proofs.few_moves_do_anything.Goals as goal

pub returns : goal.returns
returns c = few_moves
