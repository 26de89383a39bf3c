use Rattle.std.proofs.Common.{◌<◌, ◌≤◌, ◌-◌, length, take}
use Rattle.signal.specs.Pieces.{IsStretch}
use Rattle.signal.proofs.pieces.piece_size.Given as goal

-- the frames so far are a piece
abbrev pub invariant-loop-size : goal.invariant-loop-size
invariant-loop-size l = record {
  some : 0 < l.size;
  within : l.size ≤ length l.frames;
  few : l.size ≤ l.most;
  stretch : IsStretch (take l.size l.frames);
}

abbrev pub decreases-loop-size : goal.decreases-loop-size
decreases-loop-size l = length l.frames - l.size
