use Rattle.std.proofs.Common.{length}
use Rattle.expand_bodies.proofs.body_line.tokens.Given as goal

abbrev pub decreases-loop-token : goal.decreases-loop-token
decreases-loop-token l = length l.rest
