use Rattle.std.proofs.lemmas.Result.{err_from_is_err_and}
use Rattle.loadfed_tables.proofs.Refusals.{weaker}
use Rattle.loadfed_tables.proofs.KeyReadings.{where_there}
use Rattle.loadfed_tables.specs.Sections.{members_of}
use Rattle.loadfed_tables.specs.Tables.{SaysNumber}
use Rattle.loadfed_tables.proofs.section.Section.needed_number.Goals as goal

pub returns-in_err-number-clause-refused : goal.returns-in_err-number-clause-refused
returns-in_err-number-clause-refused c =
    let p = err_from_is_err_and c.from_residual.result c.from_residual.ensures.1 in
    rw (p.1, p.2) (weaker _ _ _ _ (where_there SaysNumber c.args.key.now (members_of c.args.self.now)) c.in_err-number.ensures.refused)
