use Rattle.files_reports.specs.Said.{IsRowOf}
use Rattle.files_reports.specs.Spelling.{row_bytes}
use Rattle.files_reports.specs.Reading.{row_part}
use Rattle.files_reports.proofs.Loops.{IsOnItsWay}
use Rattle.files_reports.proofs.rows.many_rows.Given as goal

abbrev pub invariant-loop : goal.invariant-loop
invariant-loop l = IsOnItsWay (row_part l.federate) row_bytes (IsRowOf l.federate) l.count l.bytes l.counter l.rows l.rest
