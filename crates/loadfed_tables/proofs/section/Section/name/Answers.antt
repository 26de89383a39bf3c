use Rattle.std.proofs.lemmas.Result.{err_from_is_err_and}
use Rattle.loadfed_tables.specs.Sections.{members_of}
use Rattle.loadfed_tables.proofs.Refusals.{weaker}
use Rattle.loadfed_tables.proofs.KeyReadings.{name_made, name_refused}
use Rattle.loadfed_tables.proofs.section.Section.name.Goals as goal

pub returns-in_err-text-clause-ok : goal.returns-in_err-text-clause-ok
returns-in_err-text-clause-ok c =
    let p = err_from_is_err_and c.from_residual.result c.from_residual.ensures.1 in
    rw p.1 tt

pub returns-in_err-text-clause-refused : goal.returns-in_err-text-clause-refused
returns-in_err-text-clause-refused c =
    let p = err_from_is_err_and c.from_residual.result c.from_residual.ensures.1 in
    rw (p.1, p.2) (weaker _ _ _ _ (λ name says. (name, says.0)) c.in_err-text.ensures.refused)

pub returns-clause-ok : goal.returns-clause-ok
returns-clause-ok c =
    name_made c.args.key.now (members_of c.args.self.now) c.in_ok-text.text.now c.copied_name.result c.in_ok-text.ensures.ok c.copied_name.ensures.copy
    c.copied_name.ensures.named

pub returns-clause-refused : goal.returns-clause-refused
returns-clause-refused c =
    name_refused c.args.key.now (members_of c.args.self.now) c.in_ok-text.text.now c.copied_name.result c.in_ok-text.ensures.ok
    c.copied_name.ensures.refused
