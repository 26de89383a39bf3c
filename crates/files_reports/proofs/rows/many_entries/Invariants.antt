use Rattle.files_reports.specs.Said.{IsEntry}
use Rattle.files_reports.specs.Spelling.{entry_bytes}
use Rattle.files_reports.specs.Reading.{entry_part}
use Rattle.files_reports.proofs.Loops.{IsOnItsWay}
use Rattle.files_reports.proofs.rows.many_entries.Given as goal

abbrev pub invariant-loop : goal.invariant-loop
invariant-loop l = IsOnItsWay entry_part entry_bytes IsEntry l.count l.bytes l.counter l.entries.items l.rest
