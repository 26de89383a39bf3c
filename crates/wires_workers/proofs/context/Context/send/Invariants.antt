use Rattle.std.proofs.Common.{length}
use Rattle.wires_workers.proofs.context.Context.send.Given as goal

-- the frames whose peers were not sent to yet are fewer each time
abbrev pub decreases-loop-part : goal.decreases-loop-part
decreases-loop-part g l = length l.left
