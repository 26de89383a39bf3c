use Rattle.world_progress.proofs.Ending.{stuck_where_quiet, runs_end}
use Rattle.world_progress.proofs.runs_end_stuck.Goals as goal

pub returns : goal.returns
returns c = record { stuck = stuck_where_quiet; more = runs_end }
