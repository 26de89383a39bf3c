use Rattle.std.proofs.Common.{◌≡◌, ◌++◌, ◌∷◌, drop}
use Rattle.plan_paths.proofs.Cycles.{way_from}
use Rattle.plan_paths.proofs.cycle.way_along.Given as goal

abbrev pub invariant-loop-branch : goal.invariant-loop-branch
invariant-loop-branch l =
    l.path.items ++ way_from l.federate (drop l.branch-index l.tree) ≡ l.fn.first ∷ way_from l.fn.first.target l.tree
