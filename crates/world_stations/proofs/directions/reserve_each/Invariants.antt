use Rattle.std.proofs.Common.{◌≡◌, ℕ, ◌<◌, ◌≤◌, length}
use Rattle.world_stations.specs.Room.{frames_of_each, spare_at, NoneLost}
use Rattle.world_stations.proofs.directions.reserve_each.Given as goal

-- in the directions so far there is memory, and no frame has changed
abbrev pub invariant-loop-place : goal.invariant-loop-place
invariant-loop-place l = record {
  memory : (j : ℕ) → j < l.place → l.count ≤ spare_at l.sent.items j;
  none_lost : NoneLost l.fn.sent.items l.sent.items;
  frames : frames_of_each l.sent.items ≡ frames_of_each l.fn.sent.items;
  len : length l.sent.items ≡ length l.fn.sent.items;
}
