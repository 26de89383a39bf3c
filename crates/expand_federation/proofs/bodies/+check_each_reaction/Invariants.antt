use Rattle.std.proofs.Common.{length}
use Rattle.expand_federation.proofs.bodies.+check_each_reaction.Given as goal

abbrev pub decreases-check_each_reaction : goal.decreases-check_each_reaction
decreases-check_each_reaction l = length l.reactions.now
