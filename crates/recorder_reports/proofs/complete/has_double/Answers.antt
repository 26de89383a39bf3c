use Rattle.std.proofs.Common.{◌≤◌, arith, below_more}
use Rattle.recorder_reports.specs.Reports.{how_many}
use Rattle.recorder_reports.proofs.complete.has_double.Goals as goal

pub loop-federate-preserved : goal.loop-federate-preserved
loop-federate-preserved c =
    below_more (λ j. how_many c.args.reports.now j ≤ 1) c.loop-federate.federate c.loop-federate.invariant
    (let count = c.count_of.ensures in let few = c.if-count_of-gt1.false in omega arith)
