use Rattle.std.proofs.Common.{take}
use Rattle.std.specs.Io.KnownBytes.{Appends}
use Rattle.std.specs.List.{flat_map}
use Rattle.files_pictures.specs.Svg.{arrow_head_text}
use Rattle.files_pictures.proofs.svg.write_arrow_heads.Given as goal

abbrev pub invariant-loop-ink : goal.invariant-loop-ink
invariant-loop-ink g l =
    Appends (g.W.Write.contents l.initial.out) (g.W.Write.contents l.out) (flat_map arrow_head_text (take l.ink-index l.inks))
