use Rattle.std.proofs.Common.{◌+◌, ◌<◌, ◌≤◌, ◌&&◌, length, arith}
use Rattle.std.specs.Prelude.{nat_lt}
use Rattle.signal.specs.Pieces.{follows}
use Rattle.wires_traffic.proofs.Pieced.{at_first, one_frame_more, some_size, fits_kept, at_last}
use Rattle.wires_traffic.proofs.counter.batches.Goals as goal

pub loop-place-init : goal.loop-place-init
loop-place-init c = record {
  some = omega arith;
  fits = omega arith;
  completes = at_first c.args.frames.now;
}

pub loop-place-preserved : goal.loop-place-preserved
loop-place-preserved c =
    let frames = c.args.frames.now in
    let place = c.loop-place.place in
    let size = c.loop-place.size in
    let f = c.index-frames-place.result in
    let g = c.index-frames-place-in-loop-place.result in
    let next = c.size_with-size.result in
    let some : 0 < place = omega arith in
    let within : place < length frames = omega arith in
    record {
      some = some_size size next (nat_lt size 64 && follows f g) c.size_with-size.ensures;
      fits = fits_kept (c.loop-place.batches + c.begun_by.result) c.saturating_add-batches.result c.saturating_add-batches.ensures;
      completes = one_frame_more frames place c.loop-place.batches size next c.begun_by.result c.saturating_add-batches.result f g some within
          c.index-frames-place.is c.index-frames-place-in-loop-place.is c.loop-place.invariant.some c.size_with-size.ensures c.begun_by.ensures c.saturating_add-batches.ensures
          c.loop-place.invariant.completes;
    }

pub returns : goal.returns
returns c =
    let place = c.loop-place.place in
    let past : length c.args.frames.now ≤ place = omega arith in
    at_last c.args.frames.now place c.loop-place.batches c.loop-place.size past c.loop-place.invariant.fits c.loop-place.invariant.completes
