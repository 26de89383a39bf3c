use Rattle.std.proofs.lemmas.Result.{err_from_is_err_and}
use Rattle.std.proofs.Common.{codes, arith}
use Rattle.loadfed_tables.specs.Sections.{members_of}
use Rattle.loadfed.specs.Shape.{SaysReaction}
use Rattle.loadfed.specs.ShapeFaults.{HasReactionFault}
use Rattle.loadfed.proofs.TableReadings.{array_told}
use Rattle.loadfed.proofs.OneReading.{each_few}
use Rattle.loadfed_tables.proofs.Refusals.{second_of}
use Rattle.loadfed.proofs.program_draft.reactions.Goals as goal

pub returns-clause-few : goal.returns-clause-few
returns-clause-few c =
    each_few SaysReaction (codes "reaction") (members_of c.args.federate.now) c.in_ok-values.values.now c.read_each.result (omega arith) c.in_ok-values.ensures.ok c.read_each.ensures.ok

pub returns-in_err-values-clause-refused : goal.returns-in_err-values-clause-refused
returns-in_err-values-clause-refused c =
    let p = err_from_is_err_and c.from_residual.result c.from_residual.ensures.1 in
    rw (p.1, p.2) (second_of (array_told HasReactionFault (codes "reaction") (members_of c.args.federate.now) _ c.in_err-values.ensures.refused))
