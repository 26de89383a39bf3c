use Rattle.std.proofs.Common.{length}
use Rattle.loadfed.proofs.slots_shape.+want_startup.Given as goal

abbrev pub decreases-want_startup : goal.decreases-want_startup
decreases-want_startup l = length l.reactions.now
