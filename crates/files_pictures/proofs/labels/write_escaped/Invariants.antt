use Rattle.std.specs.Io.KnownBytes.{Appends}
use Rattle.std.specs.List.{flat_map}
use Rattle.files_pictures.specs.Escaped.{escaped_letter}
use Rattle.files_pictures.proofs.labels.write_escaped.Given as goal

abbrev pub invariant-loop-letter : goal.invariant-loop-letter
invariant-loop-letter g l =
    Appends (g.W.Write.contents l.initial.out) (g.W.Write.contents l.out) (flat_map escaped_letter l.yielded)
