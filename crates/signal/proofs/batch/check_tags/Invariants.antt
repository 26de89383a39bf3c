use Rattle.std.proofs.Common.{◌≡◌, None}
use Rattle.signal.specs.Fault.{shape_fault, tags_fault}
use Rattle.signal.specs.Begun.{AreSignals}
use Rattle.signal.proofs.batch.check_tags.Given as goal

-- what is left has its shape, and what is wrong with all is wrong with it; its signals are the last of all
abbrev pub invariant-loop-left : goal.invariant-loop-left
invariant-loop-left l = record {
  shape : shape_fault l.left l.rest ≡ None;
  tags : tags_fault l.count l.bytes ≡ tags_fault l.left l.rest;
  filled : AreSignals l.left l.rest → AreSignals l.count l.bytes;
}

abbrev pub decreases-loop-left : goal.decreases-loop-left
decreases-loop-left l = l.left
