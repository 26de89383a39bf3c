use Rattle.std.proofs.Common.{◌≡◌, take}
use Rattle.wires_traffic.specs.Kinds.{number_of}
use Rattle.wires_traffic.specs.Sums.{count_of, kept}
use Rattle.wires_traffic.specs.declared.kind.FrameKind.{FrameKind}
use Rattle.wires_traffic.proofs.frame_counts.FrameCounts.of.Given as goal

-- the counts so far are those of the frames so far
abbrev pub invariant-loop-frame : goal.invariant-loop-frame
invariant-loop-frame l = (kind : FrameKind) → count_of kind l.counts ≡ kept (number_of kind l.before (take l.frame-index l.frames))
