use Rattle.std.proofs.Common.{◌≡◌, ◌+◌, ℕ, suc, sym, subst, arith}
use Rattle.std.specs.Io.KnownBytes.{Appends}
use Rattle.std.proofs.KnownBytes.{Appends-trans}
use Rattle.files_text.specs.Formats.{formatted_rows}
use Rattle.files_text.specs.PlanText.{printed_each}
use Rattle.recorder_reports.specs.Reports.{reported_rows}
use Rattle.fedrun_run.proofs.printing.print_reports.Goals as goal

pub loop-federate-preserved : goal.loop-federate-preserved
loop-federate-preserved g c =
    let before = g.O.Write.contents c.write_heading.new.out in
    let after = g.O.Write.contents c.print_report.new.out in
    let rows = λ (j : ℕ). formatted_rows c.args.format c.args.plan.now.federates (reported_rows c.args.reports.now j) in
    let next : c.loop-federate.federate + 1 ≡ suc c.loop-federate.federate = omega arith in
    subst (λ (count : ℕ). Appends before after (printed_each rows count)) (sym next)
    (Appends-trans before (g.O.Write.contents c.loop-federate.out) after
    (printed_each rows c.loop-federate.federate) (rows c.loop-federate.federate) c.loop-federate.invariant c.in_ok-print_report.ensures)
