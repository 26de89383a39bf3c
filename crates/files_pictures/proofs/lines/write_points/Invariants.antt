use Rattle.std.specs.Io.KnownBytes.{Appends}
use Rattle.files_pictures.specs.Svg.{point_text, first_texts}
use Rattle.files_pictures.proofs.lines.write_points.Given as goal

abbrev pub invariant-loop-place : goal.invariant-loop-place
invariant-loop-place g l =
    Appends (g.W.Write.contents l.initial.out) (g.W.Write.contents l.out) (first_texts (point_text l.bends l.points) l.place)
