use Rattle.std.proofs.Common.{take}
use Rattle.std.specs.Io.KnownBytes.{Appends}
use Rattle.std.specs.List.{flat_map}
use Rattle.files_pictures.specs.Svg.{box_text}
use Rattle.files_pictures.proofs.svg.write_boxes.Given as goal

abbrev pub invariant-loop-area : goal.invariant-loop-area
invariant-loop-area g l =
    Appends (g.W.Write.contents l.initial.out) (g.W.Write.contents l.out) (flat_map box_text (take l.area-index l.boxes))
