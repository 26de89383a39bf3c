use Rattle.std.proofs.Common.{◌++◌, take, codes}
use Rattle.std.specs.Io.KnownBytes.{Appends}
use Rattle.std.specs.List.{flat_map}
use Rattle.files_text.specs.RowText.{printed_output}
use Rattle.files_text.proofs.rows.write_outputs.Given as goal

abbrev pub invariant-loop-entry : goal.invariant-loop-entry
invariant-loop-entry g l =
    Appends (g.W.Write.contents l.initial.out) (g.W.Write.contents l.out)
    (flat_map (λ e. codes " " ++ printed_output l.slots e) (take l.entry-index l.rest))
