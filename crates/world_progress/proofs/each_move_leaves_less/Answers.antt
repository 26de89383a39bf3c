use Rattle.world_progress.proofs.Runs.{initial_left}
use Rattle.world_progress.proofs.Moves.{move_costs}
use Rattle.world_progress.proofs.each_move_leaves_less.Goals as goal

pub returns : goal.returns
returns c = record { initial = initial_left; each = move_costs }
