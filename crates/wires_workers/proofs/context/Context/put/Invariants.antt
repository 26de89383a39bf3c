use Rattle.std.proofs.Common.{length}
use Rattle.wires_workers.proofs.context.Context.put.Given as goal

-- the frames that aren't put yet are fewer each time
abbrev pub decreases-loop-part : goal.decreases-loop-part
decreases-loop-part g l = length l.left
