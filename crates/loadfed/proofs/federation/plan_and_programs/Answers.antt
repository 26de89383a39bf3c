use Rattle.std.proofs.Common.{sym, subst}
use Rattle.std.proofs.lemmas.Bool.{false≢true}
use Rattle.std.proofs.lemmas.Result.{err_from_is_err_and}
use Rattle.plan.specs.declared.draft.Draft.{Draft}
use Rattle.loadfed.specs.Ready.{AreReady}
use Rattle.loadfed_tables.proofs.Refusals.{first_of}
use Rattle.loadfed.proofs.Parsed.{have_slots}
use Rattle.loadfed.proofs.Planned.{among_legal}
use Rattle.loadfed.proofs.federation.plan_and_programs.Goals as goal

pub programs_of-requires : goal.programs_of-requires
programs_of-requires c =
    subst (λ (d : Draft). AreReady d.federates c.args.shape.programs.items) (sym c.in_ok-plan.ensures.ok) c.requires

pub returns-in_err-plan-clause-refused : goal.returns-in_err-plan-clause-refused
returns-in_err-plan-clause-refused c =
    let p = err_from_is_err_and c.from_residual.result c.from_residual.ensures.1 in
    rw (p.1, p.2) (first_of c.in_err-plan.ensures.refused)

pub returns-in_err-programs-clause-refused : goal.returns-in_err-programs-clause-refused
returns-in_err-programs-clause-refused c =
    let p = err_from_is_err_and c.from_residual-in_err-programs.result c.from_residual-in_err-programs.ensures.1 in
    rw (p.1, p.2) (among_legal c.args.shape.draft c.in_ok-plan.plan c.args.shape.programs.items _ c.in_ok-plan.ensures.ok c.in_ok-plan.ensures.legal c.in_err-programs.ensures.refused)

pub unreachable-requires : goal.unreachable-requires
unreachable-requires c =
    let fitting = have_slots c.in_ok-plan.plan.federates c.args.shape.programs.items c.in_ok-programs.programs.items c.in_ok-programs.ensures.ok in
    false≢true (rw c.in-None.is at (c.new.ensures.fitting.1 fitting))
