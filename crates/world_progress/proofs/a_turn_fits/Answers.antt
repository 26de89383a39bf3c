use Rattle.world_progress.proofs.Fitting.{turn_fits, announcement_fits, grants_fit}
use Rattle.world_progress.proofs.a_turn_fits.Goals as goal

pub returns : goal.returns
returns c = record { turn = turn_fits; announcement = announcement_fits; coordinator = grants_fit }
