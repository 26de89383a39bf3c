use Rattle.std.proofs.Common.{length}
use Rattle.expand_federation.proofs.scratch.+check_all.Given as goal

abbrev pub decreases-check_all : goal.decreases-check_all
decreases-check_all l = length l.states.now
