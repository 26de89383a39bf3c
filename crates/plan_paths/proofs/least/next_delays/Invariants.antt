use Rattle.std.proofs.Common.{◌≡◌, ℕ, ◌<◌, length, drop, get_or}
use Rattle.std.specs.Prelude.{None}
use Rattle.plan_paths.specs.Least.{lesser_of, least_into}
use Rattle.plan_paths.proofs.least.next_delays.Given as goal

abbrev pub invariant-loop-connection : goal.invariant-loop-connection
invariant-loop-connection l = record {
  len : length l.next.items ≡ length l.delays;
  so_far : (j : ℕ) → j < length l.delays
      → lesser_of (get_or l.next.items j None) (least_into (λ m. get_or l.delays m None) l.from j (drop l.connection-index l.connections))
      ≡ least_into (λ m. get_or l.delays m None) l.from j l.connections;
}
