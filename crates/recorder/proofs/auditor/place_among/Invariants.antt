use Rattle.std.proofs.Common.{◌≢◌, ℕ, ◌<◌, ◌≤◌, Some}
use Rattle.world_stations.specs.World.{frames_in, frame_at}
use Rattle.world.specs.World.{stations_of}
use Rattle.recorder.proofs.auditor.place_among.Given as goal

-- it stands at none of the places so far
abbrev pub invariant-loop-k : goal.invariant-loop-k
invariant-loop-k l = (k : ℕ) → l.from ≤ k → k < l.k → frame_at (frames_in (stations_of l.world) l.dir) k ≢ Some l.frame
