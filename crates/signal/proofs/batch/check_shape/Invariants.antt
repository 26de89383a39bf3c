use Rattle.std.proofs.Common.{◌≡◌}
use Rattle.signal.specs.Fault.{shape_fault}
use Rattle.signal.proofs.batch.check_shape.Given as goal

-- what is wrong with all is wrong with what is left
abbrev pub invariant-loop-left : goal.invariant-loop-left
invariant-loop-left l = shape_fault l.count l.bytes ≡ shape_fault l.left l.rest

abbrev pub decreases-loop-left : goal.decreases-loop-left
decreases-loop-left l = l.left
