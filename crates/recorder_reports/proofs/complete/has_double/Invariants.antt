use Rattle.std.proofs.Common.{ℕ, ◌<◌, ◌≤◌}
use Rattle.recorder_reports.specs.Reports.{how_many}
use Rattle.recorder_reports.proofs.complete.has_double.Given as goal

-- no federate so far has two
abbrev pub invariant-loop-federate : goal.invariant-loop-federate
invariant-loop-federate l = (j : ℕ) → j < l.federate → how_many l.reports j ≤ 1
