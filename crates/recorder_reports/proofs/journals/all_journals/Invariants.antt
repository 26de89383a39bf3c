use Rattle.std.proofs.Common.{◌≡◌, map}
use Rattle.recorder_reports.specs.Reports.{all_journals}
use Rattle.recorder_reports.proofs.journals.all_journals.Given as goal

-- the journals so far
abbrev pub invariant-loop-federate : goal.invariant-loop-federate
invariant-loop-federate l = map (λ j. j.now) l.journals.items ≡ all_journals l.federate l.reports l.coordinator
