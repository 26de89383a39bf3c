use Rattle.std.proofs.lemmas.Result.{err_from_is_err_and}
use Rattle.std.proofs.Common.{codes}
use Rattle.loadfed_tables.specs.Sections.{members_of}
use Rattle.loadfed.specs.ShapeFaults.{HasFederateFault, HasTablesFault}
use Rattle.loadfed.proofs.ShapeReadings.{federates_parted}
use Rattle.loadfed_tables.proofs.Refusals.{memory_alone}
use Rattle.loadfed.proofs.federation_shape.federates.Goals as goal

pub returns-in_err-shapes-clause-refused : goal.returns-in_err-shapes-clause-refused
returns-in_err-shapes-clause-refused c =
    let p = err_from_is_err_and c.from_residual.result c.from_residual.ensures.1 in
    rw (p.1, p.2) c.in_err-shapes.ensures.refused

pub returns-clause-ok : goal.returns-clause-ok
returns-clause-ok c =
    federates_parted (members_of c.args.file.now) c.in_ok-shapes.shapes.items c.parted.result c.in_ok-shapes.ensures.ok c.parted.ensures.ok

pub returns-clause-refused : goal.returns-clause-refused
returns-clause-refused c = memory_alone (HasTablesFault HasFederateFault (codes "federate") (members_of c.args.file.now)) c.parted.result c.parted.ensures.refused
