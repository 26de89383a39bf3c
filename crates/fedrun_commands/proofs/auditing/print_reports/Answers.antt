use Rattle.std.proofs.Common.{rules}
use Rattle.fedrun_run.specs.declared.output.RunOutput.TheVariants.{Rows}
use Rattle.fedrun_run.specs.Printed.{PrintsReports}
use Rattle.fedrun_commands.proofs.Runs.{reports_kept}
use Rattle.fedrun_files.proofs.Results.{on_ok_always}
use Rattle.fedrun_commands.proofs.auditing.print_reports.Goals as goal

pub returns-in-Ok-print_audited-clause-ok : goal.returns-in-Ok-print_audited-clause-ok
returns-in-Ok-print_audited-clause-ok g c =
    let s = c.args.sources.now in
    let before = g.O.Write.contents c.args.out.now in
    let mid = g.O.Write.contents c.print_audited.new.out in
    let printed : PrintsReports (Rows c.args.format) s.plan s.programs s.inputs c.args.reports.now c.args.journal.now before mid = search rules in
    on_ok_always c.flush.result (reports_kept (Rows c.args.format) s.plan s.programs s.inputs c.args.reports.now c.args.journal.now before mid
    (g.O.Write.contents c.flush.new.out) printed c.flush.ensures.kept)
