use Rattle.std.proofs.Common.{ℕ, ◌<◌, ◌≤◌}
use Rattle.recorder_reports.specs.Reports.{how_many}
use Rattle.recorder_reports.proofs.complete.first_missing.Given as goal

-- each federate so far has one
abbrev pub invariant-loop-federate : goal.invariant-loop-federate
invariant-loop-federate l = (j : ℕ) → j < l.federate → 1 ≤ how_many l.reports j
