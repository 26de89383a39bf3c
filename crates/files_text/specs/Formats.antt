-- Rows in a format: as text, or as comma-separated values.
use Rattle.std.specs.Prelude.{ℕ, List, []}
use Rattle.std.specs.List.{flat_map}
use Rattle.network.specs.Undivided.{Row}
use Rattle.plan.specs.declared.draft.Federate.{Federate}
use Rattle.files_text.specs.declared.row_format.RowFormat.{RowFormat}
use Rattle.files_text.specs.declared.row_format.RowFormat.TheVariants.{Text, Csv}
use Rattle.files_text.specs.RowText.{printed_line}
use Rattle.files_text.specs.CsvText.{csv_header, csv_row}

-- what stands above all rows
abbrev pub heading : RowFormat → List ℕ
heading Text = []
heading Csv = csv_header

-- a row of one of these federates, with the ends of its lines
abbrev pub formatted_row : RowFormat → List Federate → Row → List ℕ
formatted_row Text = printed_line
formatted_row Csv = csv_row

-- rows, one after the other
abbrev pub formatted_rows : RowFormat → List Federate → List Row → List ℕ
formatted_rows format federates rows = flat_map (formatted_row format federates) rows
