use Rattle.std.proofs.Common.{◌≡◌, take, vec_len}
use Rattle.std.specs.Vec.{vec_capacity}
use Rattle.node.specs.Step.{addressed}
use Rattle.node.proofs.replies.address.Given as goal

-- the frames so far stand there, and the places stay
abbrev pub invariant-loop-frame : goal.invariant-loop-frame
invariant-loop-frame l = record {
  items : l.to.items ≡ addressed l.peer (take l.frame-index l.frames);
  filled : vec_len l.to ≡ l.frame-index;
  places : vec_capacity l.to ≡ vec_capacity l.fn.to;
}
