use Rattle.std.proofs.Common.{◌≡◌, arith, Some, slice_get}
use Rattle.world_stations.proofs.Ways.{found_at, put_frames, spare_used}
use Rattle.world_stations.proofs.directions.append.Goals as goal

pub returns-in-Some-clause-frames : goal.returns-in-Some-clause-frames
returns-in-Some-clause-frames c =
    let found : slice_get c.args.sent.now.items c.args.place ≡ Some c.in-Some.direction.now = grind (arith, found_at, c.in-Some.ensures) in
    put_frames c.args.sent.now.items c.args.place c.in-Some.direction.now c.put.new.self c.args.frame found c.put.ensures.frames

pub returns-in-Some-clause-one_used : goal.returns-in-Some-clause-one_used
returns-in-Some-clause-one_used c =
    let found : slice_get c.args.sent.now.items c.args.place ≡ Some c.in-Some.direction.now = grind (arith, found_at, c.in-Some.ensures) in
    spare_used c.args.sent.now.items c.args.place c.in-Some.direction.now c.put.new.self found c.put.ensures.one_used
