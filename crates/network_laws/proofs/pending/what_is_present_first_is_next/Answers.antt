use Rattle.network_laws.proofs.PendingSlots.{next_turn}
use Rattle.network_laws.proofs.pending.what_is_present_first_is_next.Goals as goal

pub returns : goal.returns
returns c = next_turn
