use Rattle.std.proofs.Common.{◌≤◌, arith, below_more}
use Rattle.recorder_reports.specs.Reports.{how_many}
use Rattle.recorder_reports.proofs.complete.first_missing.Goals as goal

pub loop-federate-preserved : goal.loop-federate-preserved
loop-federate-preserved c =
    below_more (λ j. 1 ≤ how_many c.args.reports.now j) c.loop-federate.federate c.loop-federate.invariant
    (let count = c.count_of.ensures in let some = c.if-count_of-eq0.false in omega arith)
