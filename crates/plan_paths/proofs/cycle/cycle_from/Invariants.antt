use Rattle.std.proofs.Common.{◌≡◌, length}
use Rattle.plan_paths.proofs.Cycles.{IsGrown}
use Rattle.plan_paths.proofs.cycle.cycle_from.Given as goal

abbrev pub invariant-loop-branches : goal.invariant-loop-branches
invariant-loop-branches l = record {
  grown : IsGrown l.connections l.start l.tree.items;
  count : length l.tree.items ≡ l._branches;
}
