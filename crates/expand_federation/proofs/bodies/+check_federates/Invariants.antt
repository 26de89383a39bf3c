use Rattle.std.proofs.Common.{length}
use Rattle.expand_federation.proofs.bodies.+check_federates.Given as goal

abbrev pub decreases-check_federates : goal.decreases-check_federates
decreases-check_federates l = length l.federates.now
