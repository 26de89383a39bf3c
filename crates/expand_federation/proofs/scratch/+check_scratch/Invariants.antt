use Rattle.std.proofs.Common.{length}
use Rattle.expand_federation.proofs.scratch.+check_scratch.Given as goal

abbrev pub decreases-check_scratch : goal.decreases-check_scratch
decreases-check_scratch l = length l.states.now
