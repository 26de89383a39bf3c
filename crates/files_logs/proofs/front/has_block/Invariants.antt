use Rattle.std.proofs.Common.{◌≡◌, length}
use Rattle.files_logs.specs.Front.{has_block}
use Rattle.files_logs.proofs.front.has_block.Given as goal

-- among the bytes that are left there is one if there is one among all
abbrev pub invariant-loop-rest : goal.invariant-loop-rest
invariant-loop-rest l = has_block l.rest ≡ has_block l.bytes

abbrev pub decreases-loop-rest : goal.decreases-loop-rest
decreases-loop-rest l = length l.rest
