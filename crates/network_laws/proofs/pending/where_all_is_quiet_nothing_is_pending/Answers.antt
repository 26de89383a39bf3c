use Rattle.network_laws.proofs.PendingSlots.{quiet_is_done}
use Rattle.network_laws.proofs.pending.where_all_is_quiet_nothing_is_pending.Goals as goal

pub returns : goal.returns
returns c = quiet_is_done
