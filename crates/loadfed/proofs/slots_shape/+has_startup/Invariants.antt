use Rattle.std.proofs.Common.{length}
use Rattle.loadfed.proofs.slots_shape.+has_startup.Given as goal

abbrev pub decreases-has_startup : goal.decreases-has_startup
decreases-has_startup l = length l.triggers.now
