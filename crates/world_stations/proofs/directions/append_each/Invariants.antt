use Rattle.std.proofs.Common.{◌≡◌, ℕ, ◌+◌, ◌≤◌, length, take, drop}
use Rattle.world_stations.specs.World.{sent_out}
use Rattle.world_stations.specs.Room.{frames_of_each, spare_at, Fits}
use Rattle.world_stations.proofs.directions.append_each.Given as goal

-- the frames so far are put, and the others fit; each took one place at most
abbrev pub invariant-loop-out : goal.invariant-loop-out
invariant-loop-out l = record {
  put : frames_of_each l.sent.items ≡ sent_out (frames_of_each l.fn.sent.items) (take l.out-index l.outgoing);
  fits : Fits (drop l.out-index l.outgoing) l.sent.items;
  few_used : (j : ℕ) → spare_at l.fn.sent.items j ≤ spare_at l.sent.items j + l.out-index;
  len : length l.sent.items ≡ length l.fn.sent.items;
}
