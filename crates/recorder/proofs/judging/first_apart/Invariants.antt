use Rattle.std.proofs.Common.{ℕ, ◌<◌}
use Rattle.recorder.specs.Audited.{HasReportedRows}
use Rattle.recorder.proofs.judging.first_apart.Given as goal

-- the federates so far have the rows that they report
abbrev pub invariant-loop-federate : goal.invariant-loop-federate
invariant-loop-federate l = (j : ℕ) → j < l.federate → HasReportedRows l.world l.reports j
