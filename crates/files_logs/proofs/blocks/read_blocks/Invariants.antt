use Rattle.std.proofs.Common.{length}
use Rattle.files_logs.specs.Parts.{AreRead}
use Rattle.files_logs.proofs.blocks.read_blocks.Given as goal

abbrev pub invariant-loop-block : goal.invariant-loop-block
invariant-loop-block l = AreRead l.sum l.bytes l.fn.journal l.journal l.is_told l.before l.rest

abbrev pub decreases-loop-block : goal.decreases-loop-block
decreases-loop-block l = length l.rest
