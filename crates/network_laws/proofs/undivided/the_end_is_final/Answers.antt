use Rattle.network_laws.proofs.Prefix.{nothing_changes}
use Rattle.network_laws.proofs.undivided.the_end_is_final.Goals as goal

pub returns : goal.returns
returns c = nothing_changes
