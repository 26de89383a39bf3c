use Rattle.network_laws.proofs.WholeTrace.{part_is_replayed}
use Rattle.network_laws.proofs.agreement.rows_are_replayed.Goals as goal

pub returns : goal.returns
returns c = part_is_replayed
