use Rattle.std.proofs.Common.{◌≡◌, ◌+◌, ◌*◌, ◌≤◌, length, drop}
use Rattle.std.specs.List.{flat_map}
use Rattle.signal.specs.Signal.{signal_bytes}
use Rattle.signal.specs.Pieces.{signals_of}
use Rattle.signal.proofs.writing.signals_size.Given as goal

-- the size of what is left completes it
abbrev pub invariant-loop-frame : goal.invariant-loop-frame
invariant-loop-frame l = record {
  few : l.size ≤ 23 * l.frame-index;
  completes : l.size + length (flat_map signal_bytes (signals_of (drop l.frame-index l.piece))) ≡ length (flat_map signal_bytes (signals_of l.piece));
}
