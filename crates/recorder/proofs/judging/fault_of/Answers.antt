use Rattle.std.proofs.Common.{[], subst}
use Rattle.recorder.specs.Audited.{claim_of, HasSearched}
use Rattle.recorder.proofs.Proved.{sized}
use Rattle.recorder.proofs.Judged.{apart_so}
use Rattle.recorder.proofs.judging.fault_of.Goals as goal

pub first_apart-requires-clause-sized : goal.first_apart-requires-clause-sized
first_apart-requires-clause-sized c =
    sized (claim_of c.args.world.now c.args.reports.now []) c.requires.federation.0 c.requires.federation.1 c.requires.federation.2 c.args.world.now.steps

pub returns-in-Some : goal.returns-in-Some
returns-in-Some c coordinator searched =
    let all = subst (HasSearched (claim_of c.args.world.now c.args.reports.now coordinator) c.args.world.now) c.in-All.is searched in
    (c.requires.complete, (all.0, apart_so c.args.world.now c.args.reports.now coordinator all.0 c.in-Some.federate c.in-Some.row all.1 all.2 c.in-Some.ensures))
