use Rattle.std.proofs.Common.{◌≡◌, ◌∙◌, IfSome, ap, refl, rules, subst, sym}
use Rattle.std.proofs.lemmas.Result.{err_from_is_err_and}
use Rattle.fedrun_run.specs.Printed.{IsTextOf}
use Rattle.fedrun_run.proofs.Believed.{of_the_run, same_reports_of, printed_of_some, fault_of_some, text_lent}
use Rattle.fedrun_run.proofs.running.print_audited_run.Goals as goal

pub returns-in_err-node_reports-clause-fault : goal.returns-in_err-node_reports-clause-fault
returns-in_err-node_reports-clause-fault g c =
    let told = err_from_is_err_and c.from_residual.result c.from_residual.ensures.1 in
    rw (told.1, told.2)
    (of_the_run c.args.plan.now c.args.programs.now c.args.inputs.now _ (rw c.in_err-node_reports.was at c.run_and_ask-audit.ensures.fault))

pub print_audited_text-requires : goal.print_audited_text-requires
print_audited_text-requires g c =
    let asked = c.in_ok-node_reports.node_reports in
    let text : IfSome asked.text (λ text. IsTextOf c.args.output c.args.plan.now asked.reports.reports text.items) = rw c.in_ok-node_reports.was at c.run_and_ask-audit.ensures.text in
    record {
      plan = ap (λ w. w.draft) (c.run_and_ask-audit.ensures.audit ∙ c.in-Ok.ensures.begun);
      text = text_lent (IsTextOf c.args.output c.args.plan.now c.reports.result.now) _ (λ x y is. is.0) asked.text c.as_deref.result c.as_deref.ensures.cases
          (subst (λ l. IfSome asked.text (λ text. IsTextOf c.args.output c.args.plan.now l text.items)) (sym c.reports.ensures) text);
    }

pub returns-clause-ok : goal.returns-clause-ok
returns-clause-ok g c =
    let asked = c.in_ok-node_reports.node_reports in
    let reports : c.reports.result.now ≡ asked.reports.reports = search rules in
    printed_of_some c.args.output c.args.plan.now c.args.programs.now c.args.inputs.now _ c.reports.result.now asked.coordinator _ _ c.print_audited_text.result
    (same_reports_of reports refl (rw c.in_ok-node_reports.was at c.run_and_ask-audit.ensures.reported))
    (c.run_and_ask-audit.ensures.audit ∙ c.in-Ok.ensures.begun) c.print_audited_text.ensures.ok

pub returns-clause-fault : goal.returns-clause-fault
returns-clause-fault g c =
    let asked = c.in_ok-node_reports.node_reports in
    let reports : c.reports.result.now ≡ asked.reports.reports = search rules in
    fault_of_some c.args.plan.now c.args.programs.now c.args.inputs.now _ c.reports.result.now asked.coordinator c.print_audited_text.result
    (same_reports_of reports refl (rw c.in_ok-node_reports.was at c.run_and_ask-audit.ensures.reported))
    (c.run_and_ask-audit.ensures.audit ∙ c.in-Ok.ensures.begun) c.print_audited_text.ensures.fault
