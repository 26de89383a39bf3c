use Rattle.plan_paths.proofs.Cycles.{way_from, way_ended, way_whole}
use Rattle.std.proofs.Common.{◌∷◌}
use Rattle.plan_paths.proofs.cycle.way_along.Goals as goal

pub returns : goal.returns
returns c =
    way_whole c.args.first c.args.tree.now c.loop-branch.path.items
    (way_ended c.loop-branch.path.items c.args.tree.now (c.args.first ∷ way_from c.args.first.target c.args.tree.now) c.loop-branch.federate
    c.loop-branch.branch-index c.loop-branch-test.false c.loop-branch.invariant)
