use Rattle.std.proofs.Common.{slice_range}
use Rattle.std.specs.Io.KnownBytes.{Appends}
use Rattle.files_text.specs.Formats.{formatted_rows}
use Rattle.files_text.proofs.rows.write_lines.Given as goal

abbrev pub invariant-loop-place : goal.invariant-loop-place
invariant-loop-place g l = Appends (g.W.Write.contents l.initial.out) (g.W.Write.contents l.out) (formatted_rows l.format l.federates (slice_range l.rows l.first l.place))
