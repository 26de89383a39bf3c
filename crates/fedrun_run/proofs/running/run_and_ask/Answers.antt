use Rattle.std.proofs.Common.{List, Option}
use Rattle.std.proofs.lemmas.Result.{IfOk-weaker}
use Rattle.wires.specs.declared.threads.RunResults.{RunResults}
use Rattle.fedrun_run.specs.Reported.{AreReported}
use Rattle.fedrun_run.proofs.Reports.{of_some_left}
use Rattle.fedrun_run.proofs.running.run_and_ask.Goals as goal

pub returns-clause-reported : goal.returns-clause-reported
returns-clause-reported g c =
    IfOk-weaker c.take_apart.result.1 _ _
    (λ asked all. of_some_left c.run_watched-audit.result.1
    (λ (left : RunResults). AreReported g.H.Node.core g.H.Node.HUB g.M.Node.core g.M.Node.HUB g.M.Reporting.tells left asked.reports.reports asked.coordinator) all)
    c.take_apart.ensures.reported
