use Rattle.std.proofs.Common.{rules, subst}
use Rattle.plan.specs.declared.draft.Draft.{Draft}
use Rattle.recorder.specs.Audited.{HasEnded}
use Rattle.std.specs.Prelude.{OnOk}
use Rattle.std.specs.Io.KnownBytes.{Appends}
use Rattle.std.proofs.lemmas.Result.{on_ok_weaker}
use Rattle.fedrun_run.specs.Printed.{claim, printed_run}
use Rattle.fedrun_run.proofs.Believed.{prints_so}
use Rattle.fedrun_run.proofs.printing.print_audited_text.Goals as goal

pub returns-in-Ok-clause-ok : goal.returns-in-Ok-clause-ok
returns-in-Ok-clause-ok g c =
    let before = g.O.Write.contents c.args.out.now in
    let after = g.O.Write.contents c.print_run.new.out in
    let printed : OnOk c.map_err.result (Appends before after (printed_run c.args.output c.args.plan.now c.args.reports.now c.in-Ok.audited.steps.steps)) = search rules in
    on_ok_weaker c.map_err.result
    (prints_so c.args.plan.now c.args.audit.programs c.args.audit.inputs c.args.reports.now c.args.coordinator.now c.args.output c.in-Ok.audited before after
    (subst (λ (d : Draft). HasEnded (claim d c.args.audit.programs c.args.audit.inputs c.args.reports.now c.args.coordinator.now) c.in-Ok.audited) c.requires.plan
    c.in-Ok.ensures.ended)
    c.if-conclude.true)
    printed
