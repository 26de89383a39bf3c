use Rattle.files_reports.specs.Said.{IsEvent}
use Rattle.files_reports.specs.Spelling.{event_bytes}
use Rattle.files_reports.specs.Reading.{event_part}
use Rattle.files_reports.proofs.Loops.{IsOnItsWay}
use Rattle.files_reports.proofs.journals.many_events.Given as goal

abbrev pub invariant-loop : goal.invariant-loop
invariant-loop l = IsOnItsWay event_part event_bytes IsEvent l.count l.bytes l.counter l.events l.rest
