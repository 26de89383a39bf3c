use Rattle.std.proofs.Common.{◌≡◌, ℕ, ◌<◌, length, get_or}
use Rattle.std.specs.Prelude.{None}
use Rattle.plan_paths.specs.Least.{least_within}
use Rattle.plan_paths.proofs.least.row_of.Given as goal

abbrev pub invariant-loop-most : goal.invariant-loop-most
invariant-loop-most l = record {
  len : length l.delays.items ≡ l.count;
  so_far : (j : ℕ) → j < l.count → get_or l.delays.items j None ≡ least_within l.connections l._most l.from j;
}
