use Rattle.std.proofs.Common.{take}
use Rattle.std.specs.Io.KnownBytes.{Appends}
use Rattle.std.specs.List.{flat_map}
use Rattle.files_pictures.specs.Svg.{label_text}
use Rattle.files_pictures.proofs.labels.write_labels.Given as goal

abbrev pub invariant-loop-label : goal.invariant-loop-label
invariant-loop-label g l =
    Appends (g.W.Write.contents l.initial.out) (g.W.Write.contents l.out) (flat_map label_text (take l.label-index l.labels))
