use Rattle.std.proofs.Common.{◌≡◌, ◌∙◌, IfSome, false, subst}
use Rattle.std.proofs.lemmas.Result.{err_from_is_err_and}
use Rattle.fedrun_run.specs.Printed.{IsTextOf}
use Rattle.fedrun_run.proofs.Believed.{no_desks}
use Rattle.fedrun_run.proofs.Reports.{reported_so}
use Rattle.fedrun_run.proofs.node_reports.reports_by.Goals as goal

pub reports_of-requires : goal.reports_of-requires
reports_of-requires g c = record { each = (rw c.in_ok-gathered.ensures.same at c.gathered.ensures.each) ∙ c.requires.each }

pub returns-clause-ok : goal.returns-clause-ok
returns-clause-ok g c =
    let desks = c.in_ok-gathered.gathered in
    reported_so g.H.Node.core g.H.Node.HUB g.M.Node.core g.M.Node.HUB g.M.Reporting.tells c.args.results desks.coordinator desks.federates.items
    c.in-Ok.reports.reports c.into_parts-coordinator.result.1
    (rw c.in_ok-gathered.ensures.same at c.gathered.ensures.shares) c.into_parts-coordinator.ensures.replay c.in_ok-gathered.ensures.finished
    c.into_parts-coordinator.ensures.journal c.in-Ok.ensures.ok

pub returns-in_err-gathered-clause-fault : goal.returns-in_err-gathered-clause-fault
returns-in_err-gathered-clause-fault g c =
    let told = err_from_is_err_and c.from_residual.result c.from_residual.ensures.1 in
    rw (told.1, told.2)
    (no_desks c.gathered.result c.in_err-gathered.field-0.0 (λ desks. g.H.Node.core.finished desks.coordinator.station.node ≡ false)
    c.in_err-gathered.ensures.unfinished c.in_err-gathered.ensures.fault)

pub returns-clause-text : goal.returns-clause-text
returns-clause-text g c =
    subst (λ l. IfSome c.text_of-text.result (λ text. IsTextOf c.args.output c.args.plan.now l text.items)) c.reports.ensures c.text_of-text.ensures
