use Rattle.std.proofs.lemmas.Result.{err_from_is_err_and}
use Rattle.loadfed_tables.specs.Sections.{members_of}
use Rattle.loadfed_tables.proofs.KeyReadings.{text_made, text_refused}
use Rattle.loadfed_tables.proofs.section.Section.copied_text.Goals as goal

pub returns-in_err-needed_text-clause-ok : goal.returns-in_err-needed_text-clause-ok
returns-in_err-needed_text-clause-ok c =
    let p = err_from_is_err_and c.from_residual.result c.from_residual.ensures.1 in
    rw p.1 tt

pub returns-in_err-needed_text-clause-refused : goal.returns-in_err-needed_text-clause-refused
returns-in_err-needed_text-clause-refused c =
    let p = err_from_is_err_and c.from_residual.result c.from_residual.ensures.1 in
    rw (p.1, p.2) c.in_err-needed_text.ensures.refused

pub returns-clause-ok : goal.returns-clause-ok
returns-clause-ok c =
    text_made c.args.key.now (members_of c.args.self.now) c.in_ok-needed_text.field-0.now c.copied.result c.in_ok-needed_text.ensures.ok c.copied.ensures.copy

pub returns-clause-refused : goal.returns-clause-refused
returns-clause-refused c = text_refused c.args.key.now (members_of c.args.self.now) c.copied.result c.copied.ensures.refused
