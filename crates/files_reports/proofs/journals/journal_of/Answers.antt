use Rattle.std.specs.List.{flat_map}
use Rattle.std.proofs.lemmas.Result.{IfOk-weaker}
use Rattle.files_reports.specs.Said.{AreSoMany, AreCounted, IsEvent}
use Rattle.files_reports.specs.Spelling.{counted, event_bytes}
use Rattle.files_reports.specs.Reading.{IsTaken}
use Rattle.files_reports.proofs.Taken.{counted_taken}
use Rattle.files_reports.proofs.journals.journal_of.Goals as goal

pub returns-clause-taken : goal.returns-clause-taken
returns-clause-taken c =
    IfOk-weaker c.many_events.result (λ x. IsTaken (flat_map event_bytes) (AreSoMany IsEvent c.in_ok-count.count) c.in_ok-count.rest.now x.0 x.1.now) (λ x. IsTaken (counted event_bytes) (AreCounted IsEvent) c.args.bytes.now x.0 x.1.now)
    (λ x h. counted_taken event_bytes IsEvent c.args.bytes.now c.in_ok-count.rest.now x.1.now c.in_ok-count.count x.0 c.in_ok-count.ensures.fits c.in_ok-count.ensures.taken h) c.many_events.ensures.taken
