use Rattle.std.proofs.Common.{◌≡◌, take}
use Rattle.world_stations.specs.World.{frames_in}
use Rattle.world.specs.World.{stations_of}
use Rattle.fedrun_frames.specs.Brought.{acknowledged_last}
use Rattle.fedrun_frames.proofs.brought.acknowledged_last.Given as goal

-- none of the frames so far, from the last one back, acknowledges anything
abbrev pub invariant-loop-before : goal.invariant-loop-before
invariant-loop-before l =
    acknowledged_last l.incarnation 0 (frames_in (stations_of l.world) l.dir) ≡ acknowledged_last l.incarnation 0 (take l.before (frames_in (stations_of l.world) l.dir))
