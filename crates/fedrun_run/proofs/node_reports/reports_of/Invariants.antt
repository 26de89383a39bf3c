use Rattle.std.proofs.Common.{◌≡◌, ◌++◌, length}
use Rattle.std.specs.Vec.Iter.{into_iter_items, into_iter_len}
use Rattle.plan.specs.Federation.{federate_count}
use Rattle.recorder_reports.specs.Reports.{AreKnown}
use Rattle.fedrun_run.specs.Reported.{AreReportsOf}
use Rattle.fedrun_run.proofs.node_reports.reports_of.Given as goal

-- the reports are those of the desks so far, so each is of an earlier federate than the next one's
abbrev pub invariant-loop-desk : goal.invariant-loop-desk
invariant-loop-desk g l = record {
  count : l.reports.count ≡ federate_count l.plan;
  earlier : AreKnown (length l.reports.reports) l.reports.reports;
  reported : AreReportsOf g.M.Node.core g.M.Node.HUB g.M.Reporting.tells l.yielded l.reports.reports;
  all : l.fn.desks.items ≡ l.yielded ++ into_iter_items l.desk-iterator;
  rest : into_iter_len l.desk-iterator ≡ length (into_iter_items l.desk-iterator);
}
