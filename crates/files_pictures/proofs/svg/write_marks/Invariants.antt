use Rattle.std.proofs.Common.{take}
use Rattle.std.specs.Io.KnownBytes.{Appends}
use Rattle.std.specs.List.{flat_map}
use Rattle.files_pictures.specs.Svg.{mark_text}
use Rattle.files_pictures.proofs.svg.write_marks.Given as goal

abbrev pub invariant-loop-mark : goal.invariant-loop-mark
invariant-loop-mark g l =
    Appends (g.W.Write.contents l.initial.out) (g.W.Write.contents l.out) (flat_map mark_text (take l.mark-index l.marks))
