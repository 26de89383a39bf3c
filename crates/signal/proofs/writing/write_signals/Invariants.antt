use Rattle.std.proofs.Common.{◌≡◌, ◌++◌, drop}
use Rattle.std.specs.List.{flat_map, AllByRecursion}
use Rattle.signal.specs.Signal.{signal_bytes}
use Rattle.signal.specs.Frame.{IsFrame}
use Rattle.signal.specs.Pieces.{signals_of, Extends}
use Rattle.signal.proofs.writing.write_signals.Given as goal

-- what is left completes what was written
abbrev pub invariant-loop-frame : goal.invariant-loop-frame
invariant-loop-frame l = record {
  completes : l.bytes.items ++ flat_map signal_bytes (signals_of (drop l.frame-index l.piece)) ≡ l.fn.bytes.items ++ flat_map signal_bytes (signals_of l.piece);
  extended : Extends l.fn.bytes.items l.bytes.items;
  are_frames : AllByRecursion IsFrame (drop l.frame-index l.piece) → AllByRecursion IsFrame l.piece;
}
