use Rattle.std.proofs.Common.{◌+◌, length}
use Rattle.world_stations.specs.World.{frames_in, frame_at}
use Rattle.world.specs.World.{stations_of}
use Rattle.fedrun_frames.specs.Accounts.{sent_line}
use Rattle.fedrun_frames.proofs.Sending.{UpTo}
use Rattle.fedrun_frames.proofs.writing.write_sent_after.Given as goal

-- the frames so far are written
abbrev pub invariant-loop-before : goal.invariant-loop-before
invariant-loop-before g l =
    UpTo (λ i. sent_line l.plan l.dir (i + 1) (frame_at (frames_in (stations_of l.world) l.dir) (i + 1))) l.gone (length (frames_in (stations_of l.world) l.dir)) l.before
    (g.W.Write.contents l.initial.out) (g.W.Write.contents l.out)
