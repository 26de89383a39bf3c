use Rattle.std.proofs.Common.{◌≡◌, length, sym, ◌∙◌, arith}
use Rattle.std.proofs.lemmas.Bool.Decides.{nat_tests}
use Rattle.std.proofs.lemmas.Result.{err_from_is_err_and}
use Rattle.loadfed_tables.specs.Sections.{members_of}
use Rattle.loadfed_tables.proofs.Refusals.{weaker, told}
use Rattle.std.proofs.lemmas.List.{nil_from_length}
use Rattle.loadfed.proofs.ShapeReadings.{texts_of_triggers, no_triggers}
use Rattle.loadfed.proofs.program_draft.triggers.Goals as goal

pub returns-in_err-triggers-clause-refused : goal.returns-in_err-triggers-clause-refused
returns-in_err-triggers-clause-refused c =
    let p = err_from_is_err_and c.from_residual.result c.from_residual.ensures.1 in
    rw (p.1, p.2) (weaker _ _ _ _ (texts_of_triggers (members_of c.args.section.now)) c.in_err-triggers.ensures.refused)

pub returns-then-is_empty-clause-refused : goal.returns-then-is_empty-clause-refused
returns-then-is_empty-clause-refused c =
    let test = sym c.is_empty.ensures ∙ c.if-is_empty.true in
    let none : length c.as_slice.result.now ≡ 0 = grind (arith, nat_tests) in
    told _ _ _ (no_triggers (members_of c.args.section.now) c.in_ok-triggers.triggers c.in_ok-triggers.ensures.ok
    (nil_from_length c.in_ok-triggers.triggers (rw c.as_slice.ensures at none))) c.wrong_shape.ensures
