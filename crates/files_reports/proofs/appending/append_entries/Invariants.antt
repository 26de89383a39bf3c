use Rattle.files_reports.specs.Said.{IsEntry}
use Rattle.files_reports.specs.Spelling.{entry_bytes}
use Rattle.files_reports.proofs.Written.{AreWritten}
use Rattle.files_reports.proofs.appending.append_entries.Given as goal

abbrev pub invariant-loop-entry : goal.invariant-loop-entry
invariant-loop-entry l = AreWritten entry_bytes IsEntry l.entries l.initial.bytes.items l.entry-index l.bytes.items
