use Rattle.protocol_laws.proofs.FirstArrivals.{widest_grant}
use Rattle.protocol_laws.proofs.bounds.the_widest_grant.Goals as goal

pub returns : goal.returns
returns c = widest_grant
