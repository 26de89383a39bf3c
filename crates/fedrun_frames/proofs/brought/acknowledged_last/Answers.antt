use Rattle.std.proofs.Common.{◌<◌, ◌≤◌, length, arith}
use Rattle.world_stations.specs.World.{frames_in}
use Rattle.world.specs.World.{stations_of}
use Rattle.fedrun_frames.proofs.Sending.{last_found, last_passed}
use Rattle.fedrun_frames.proofs.brought.acknowledged_last.Goals as goal

pub returns-in-Some : goal.returns-in-Some
returns-in-Some c =
    let frames = frames_in (stations_of c.args.world.now) c.args.dir in
    let sent = c.sent-before.ensures in
    let some : 0 < c.loop-before.before = omega arith in
    let within : c.loop-before.before ≤ length frames = omega arith in
    last_found c.args.incarnation frames c.loop-before.before c.frame.result c.acknowledged_by.result c.in-Some.number some within c.loop-before.invariant
    c.frame.ensures c.acknowledged_by.ensures c.in-Some.is

pub loop-before-preserved : goal.loop-before-preserved
loop-before-preserved c =
    let frames = frames_in (stations_of c.args.world.now) c.args.dir in
    let sent = c.sent-before.ensures in
    let some : 0 < c.loop-before.before = omega arith in
    let within : c.loop-before.before ≤ length frames = omega arith in
    last_passed c.args.incarnation frames c.loop-before.before c.frame.result c.acknowledged_by.result some within c.loop-before.invariant
    c.frame.ensures c.acknowledged_by.ensures c.in-None.is
