use Rattle.std.proofs.Common.{◌<◌, ◌≤◌, length, arith}
use Rattle.world_stations.specs.World.{frames_in}
use Rattle.world.specs.World.{stations_of}
use Rattle.fedrun_frames.proofs.Sending.{frame_next}
use Rattle.fedrun_trace.specs.Steps.{departure_text}
use Rattle.fedrun_trace.proofs.arrows.write_departures_in.Goals as goal

pub loop-before-preserved : goal.loop-before-preserved
loop-before-preserved g c =
    let frames = frames_in (stations_of c.args.world.now) c.args.dir in
    let sent = c.sent-sent.ensures in
    let from : c.args.gone ≤ c.loop-before.before = omega arith in
    let there : c.loop-before.before < length frames = omega arith in
    frame_next (departure_text c.args.plan.now c.args.made.now c.args.number c.args.dir) frames c.args.gone c.loop-before.before c.frame-frame.result
    (g.W.Write.contents c.args.out.now) (g.W.Write.contents c.loop-before.out) (g.W.Write.contents c.write_departure.new.out) from there
    c.frame-frame.ensures c.loop-before.invariant c.in_ok-write_departure.ensures
