use Rattle.std.proofs.Common.{◌≡◌, ℕ, ◌<◌, [], length, get_or}
use Rattle.plan_paths.specs.Least.{IsLeastRow}
use Rattle.plan_paths.proofs.least.LeastDelays.new.Given as goal

abbrev pub invariant-loop-from : goal.invariant-loop-from
invariant-loop-from l = record {
  len : length l.rows.items ≡ l.from;
  so_far : (i : ℕ) → i < l.from → IsLeastRow l.connections l.count i (get_or l.rows.items i []);
}
