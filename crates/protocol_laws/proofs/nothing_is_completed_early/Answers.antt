use Rattle.protocol_laws.proofs.Pending.{completes_nothing_early}
use Rattle.protocol_laws.proofs.nothing_is_completed_early.Goals as goal

pub returns : goal.returns
returns c = completes_nothing_early
