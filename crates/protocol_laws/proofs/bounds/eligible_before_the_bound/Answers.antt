use Rattle.protocol_laws.proofs.FirstArrivals.{eligible_within}
use Rattle.protocol_laws.proofs.bounds.eligible_before_the_bound.Goals as goal

pub returns : goal.returns
returns c = eligible_within
