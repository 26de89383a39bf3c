use Rattle.network_laws.proofs.PendingSlots.{own_is_gone, made_is_newer}
use Rattle.network_laws.proofs.pending.what_a_turn_makes_counts_first.Goals as goal

pub returns : goal.returns
returns c = record { own = own_is_gone; elsewhere = made_is_newer }
