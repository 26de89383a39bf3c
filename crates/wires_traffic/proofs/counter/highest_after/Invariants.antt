use Rattle.std.proofs.Common.{◌≡◌, take}
use Rattle.wires_traffic.specs.Counter.{highest_after}
use Rattle.wires_traffic.proofs.counter.highest_after.Given as goal

-- the greatest number so far is that behind the frames so far
abbrev pub invariant-loop-frame : goal.invariant-loop-frame
invariant-loop-frame l = l.highest ≡ highest_after l.before (take l.frame-index l.frames)
