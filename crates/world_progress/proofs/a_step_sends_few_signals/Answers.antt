use Rattle.world_progress.proofs.Sent.{accept_sends, announce_sends, advance_sends}
use Rattle.world_progress.proofs.CoordinatorMoves.{coordinator_sends}
use Rattle.world_progress.proofs.a_step_sends_few_signals.Goals as goal

pub returns : goal.returns
returns c = record { accept = accept_sends; announce = announce_sends; advance = advance_sends; coordinator = coordinator_sends }
