use Rattle.std.proofs.Common.{◌+◌, length}
use Rattle.world_stations.specs.World.{frames_in, frame_at}
use Rattle.world.specs.World.{stations_of}
use Rattle.fedrun_frames.proofs.Sending.{UpTo}
use Rattle.fedrun_trace.specs.Steps.{departure_text}
use Rattle.fedrun_trace.proofs.arrows.write_departures_in.Given as goal

-- those of the frames so far are written
abbrev pub invariant-loop-before : goal.invariant-loop-before
invariant-loop-before g l =
    UpTo (λ i. departure_text l.plan l.made l.number l.dir (i + 1) (frame_at (frames_in (stations_of l.world) l.dir) (i + 1))) l.gone
    (length (frames_in (stations_of l.world) l.dir)) l.before (g.W.Write.contents l.initial.out) (g.W.Write.contents l.out)
