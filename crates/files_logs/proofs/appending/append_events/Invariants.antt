use Rattle.files_reports.specs.Said.{IsEvent}
use Rattle.files_reports.specs.Spelling.{event_bytes}
use Rattle.files_reports.proofs.Written.{AreWritten}
use Rattle.files_logs.proofs.appending.append_events.Given as goal

abbrev pub invariant-loop-place : goal.invariant-loop-place
invariant-loop-place l = AreWritten event_bytes IsEvent l.events l.initial.bytes.items l.place l.bytes.items
