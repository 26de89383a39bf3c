use Rattle.std.proofs.Common.{ℕ, ◌<◌}
use Rattle.plan_paths.specs.Cycles.{HasNoCycleAt}
use Rattle.plan_paths.proofs.cycle.lowest_cycle.Given as goal

abbrev pub invariant-loop-start : goal.invariant-loop-start
invariant-loop-start l = (lower : ℕ) → lower < l.start → HasNoCycleAt l.connections lower
