use Rattle.network_laws.proofs.Standing.{settled_in_time}
use Rattle.network_laws.proofs.undivided.everything_gets_settled.Goals as goal

pub returns : goal.returns
returns c = settled_in_time
