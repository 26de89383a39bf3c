use Rattle.std.proofs.Common.{take}
use Rattle.std.specs.Io.KnownBytes.{Appends}
use Rattle.std.specs.List.{flat_map}
use Rattle.files_text.specs.CsvText.{csv_output}
use Rattle.files_text.proofs.csv_rows.write_csv_outputs.Given as goal

abbrev pub invariant-loop-entry : goal.invariant-loop-entry
invariant-loop-entry g l =
    Appends (g.W.Write.contents l.initial.out) (g.W.Write.contents l.out) (flat_map (csv_output l.federate l.tag) (take l.entry-index l.entries))
