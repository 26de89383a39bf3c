use Rattle.std.proofs.Common.{◌≡◌, ◌++◌, length}
use Rattle.std.specs.List.{flat_map, AllByRecursion}
use Rattle.signal.specs.Frame.{IsFrame}
use Rattle.signal.specs.Pieces.{piece_bytes, Extends}
use Rattle.signal.proofs.Cutting.{cut_from, most_of}
use Rattle.signal.proofs.write.write_pieces.Given as goal

-- what is left completes what was written, and its frames complete those that were written
abbrev pub invariant-loop-left : goal.invariant-loop-left
invariant-loop-left l = record {
  most_is : l.most ≡ most_of l.own l.peer;
  completes : l.bytes.items ++ flat_map (piece_bytes l.own) (cut_from l.most l.most l.left) ≡ l.fn.bytes.items ++ flat_map (piece_bytes l.own) (cut_from l.most l.most l.frames);
  extended : Extends l.fn.bytes.items l.bytes.items;
  are_frames : AllByRecursion IsFrame l.left → AllByRecursion IsFrame l.frames;
}

abbrev pub decreases-loop-left : goal.decreases-loop-left
decreases-loop-left l = length l.left
