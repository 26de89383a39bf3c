use Rattle.std.proofs.Common.{ℕ, ◌<◌, ◌≤◌, slice_get}
use Rattle.world_stations.specs.Room.{most_ever_to}
use Rattle.world_stations.proofs.directions.most_ever.Given as goal

-- to none of the peers so far more is sent
abbrev pub invariant-loop-peer : goal.invariant-loop-peer
invariant-loop-peer g l = (j : ℕ) → j < l.peer → most_ever_to (slice_get l.station.ends j) ≤ l.most
