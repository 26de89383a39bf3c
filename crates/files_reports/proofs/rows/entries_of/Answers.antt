use Rattle.std.specs.List.{flat_map}
use Rattle.std.proofs.lemmas.Result.{IfOk-weaker}
use Rattle.files_reports.specs.Said.{AreSoMany, AreCounted, IsEntry}
use Rattle.files_reports.specs.Spelling.{counted, entry_bytes}
use Rattle.files_reports.specs.Reading.{IsTaken}
use Rattle.files_reports.proofs.Taken.{counted_taken}
use Rattle.files_reports.proofs.rows.entries_of.Goals as goal

pub returns-clause-taken : goal.returns-clause-taken
returns-clause-taken c =
    IfOk-weaker c.many_entries.result (λ x. IsTaken (flat_map entry_bytes) (AreSoMany IsEntry c.in_ok-count.count) c.in_ok-count.rest.now x.0.items x.1.now) (λ x. IsTaken (counted entry_bytes) (AreCounted IsEntry) c.args.bytes.now x.0.items x.1.now)
    (λ x h. counted_taken entry_bytes IsEntry c.args.bytes.now c.in_ok-count.rest.now x.1.now c.in_ok-count.count x.0.items c.in_ok-count.ensures.fits c.in_ok-count.ensures.taken h) c.many_entries.ensures.taken
