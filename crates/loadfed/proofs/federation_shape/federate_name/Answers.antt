use Rattle.std.proofs.lemmas.Result.{err_from_is_err_and}
use Rattle.loadfed_tables.specs.Sections.{members_of}
use Rattle.loadfed_tables.proofs.Refusals.{weaker, told}
use Rattle.loadfed.proofs.ShapeReadings.{name_of_federate, no_federate_name}
use Rattle.loadfed.proofs.federation_shape.federate_name.Goals as goal

pub returns-in_err-name-clause-refused : goal.returns-in_err-name-clause-refused
returns-in_err-name-clause-refused c =
    let p = err_from_is_err_and c.from_residual.result c.from_residual.ensures.1 in
    rw (p.1, p.2) (weaker _ _ _ _ (name_of_federate (members_of c.args.section.now)) c.in_err-name.ensures.refused)

pub returns-then-is-clause-refused : goal.returns-then-is-clause-refused
returns-then-is-clause-refused c =
    told _ _ _ (no_federate_name (members_of c.args.section.now) c.in_ok-name.name c.in_ok-name.ensures.ok (c.is.ensures.0 c.if-is.true)) c.wrong_shape.ensures
