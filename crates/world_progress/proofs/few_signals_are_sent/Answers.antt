use Rattle.world_progress.proofs.Runs.{few_signals}
use Rattle.world_progress.proofs.few_signals_are_sent.Goals as goal

pub returns : goal.returns
returns c = few_signals
