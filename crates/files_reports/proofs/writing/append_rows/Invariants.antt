use Rattle.files_reports.specs.Said.{IsRowOf}
use Rattle.files_reports.specs.Spelling.{row_bytes}
use Rattle.files_reports.proofs.Written.{AreWritten}
use Rattle.files_reports.proofs.writing.append_rows.Given as goal

abbrev pub invariant-loop-place : goal.invariant-loop-place
invariant-loop-place l = AreWritten row_bytes (IsRowOf l.federate) l.rows l.initial.bytes.items l.place l.bytes.items
