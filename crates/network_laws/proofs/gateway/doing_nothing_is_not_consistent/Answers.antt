use Rattle.network_laws.proofs.SmallNetwork.{nothing_is_not_consistent}
use Rattle.network_laws.proofs.gateway.doing_nothing_is_not_consistent.Goals as goal

pub returns : goal.returns
returns c = nothing_is_not_consistent
