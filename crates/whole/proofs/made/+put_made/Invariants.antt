use Rattle.std.proofs.Common.{length}
use Rattle.whole.proofs.made.+put_made.Given as goal

abbrev pub decreases-put_made : goal.decreases-put_made
decreases-put_made l = length l.targets.now
