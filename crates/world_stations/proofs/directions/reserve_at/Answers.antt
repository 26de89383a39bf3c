use Rattle.std.proofs.Common.{◌≡◌, arith, Some, slice_get}
use Rattle.world_stations.proofs.Ways.{found_at, spare_here, spare_more, frames_same}
use Rattle.world_stations.proofs.directions.reserve_at.Goals as goal

pub returns-in_err-reserve-clause-none_lost : goal.returns-in_err-reserve-clause-none_lost
returns-in_err-reserve-clause-none_lost c =
    let found : slice_get c.args.sent.now.items c.args.place ≡ Some c.in-Some.direction.now = grind (arith, found_at, c.in-Some.ensures) in
    spare_more c.args.sent.now.items c.args.place c.in-Some.direction.now c.reserve.new.self found c.reserve.ensures.none_lost

pub returns-in_err-reserve-clause-frames : goal.returns-in_err-reserve-clause-frames
returns-in_err-reserve-clause-frames c =
    let found : slice_get c.args.sent.now.items c.args.place ≡ Some c.in-Some.direction.now = grind (arith, found_at, c.in-Some.ensures) in
    frames_same c.args.sent.now.items c.args.place c.in-Some.direction.now c.reserve.new.self found c.reserve.ensures.frames

pub returns-in_ok-reserve-clause-spare : goal.returns-in_ok-reserve-clause-spare
returns-in_ok-reserve-clause-spare c within =
    let found : slice_get c.args.sent.now.items c.args.place ≡ Some c.in-Some.direction.now = grind (arith, found_at, c.in-Some.ensures) in
    let here = spare_here c.args.sent.now.items c.args.place c.in-Some.direction.now c.reserve.new.self found in
    grind (arith, here, c.in_ok-reserve.ensures.spare)

pub returns-in_ok-reserve-clause-none_lost : goal.returns-in_ok-reserve-clause-none_lost
returns-in_ok-reserve-clause-none_lost c =
    let found : slice_get c.args.sent.now.items c.args.place ≡ Some c.in-Some.direction.now = grind (arith, found_at, c.in-Some.ensures) in
    spare_more c.args.sent.now.items c.args.place c.in-Some.direction.now c.reserve.new.self found c.reserve.ensures.none_lost

pub returns-in_ok-reserve-clause-frames : goal.returns-in_ok-reserve-clause-frames
returns-in_ok-reserve-clause-frames c =
    let found : slice_get c.args.sent.now.items c.args.place ≡ Some c.in-Some.direction.now = grind (arith, found_at, c.in-Some.ensures) in
    frames_same c.args.sent.now.items c.args.place c.in-Some.direction.now c.reserve.new.self found c.reserve.ensures.frames
