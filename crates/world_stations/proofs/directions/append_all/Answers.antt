use Rattle.std.proofs.Common.{◌≡◌, ◌+◌, ◌∷◌, ◌++◌, [], arith, take, drop, drop-cons}
use Rattle.std.proofs.lemmas.List.{take_more}
use Rattle.world_stations.specs.Room.{frames_of_each}
use Rattle.world_stations.proofs.Ways.{all_more, fits_less}
use Rattle.world_stations.proofs.directions.append_all.Goals as goal

pub loop-out-preserved : goal.loop-out-preserved
loop-out-preserved c =
    let cut : drop c.loop-out.out-index c.args.outgoing.now ≡ c.out-item.result ∷ drop (c.loop-out.out-index + 1) c.args.outgoing.now =
    grind (arith, drop-cons c.args.outgoing.now c.loop-out.out-index c.out-item.result, c.out-item.is) in
    let more : take (c.loop-out.out-index + 1) c.args.outgoing.now ≡ take c.loop-out.out-index c.args.outgoing.now ++ c.out-item.result ∷ [] =
    grind (arith, take_more c.args.outgoing.now c.loop-out.out-index c.out-item.result, c.out-item.is) in
    record {
      put = all_more (frames_of_each c.args.sent.now.items) (frames_of_each c.loop-out.sent.items) (frames_of_each c.append.new.sent.items) c.args.place
          (take c.loop-out.out-index c.args.outgoing.now) (take (c.loop-out.out-index + 1) c.args.outgoing.now) c.out-item.result more c.loop-out.invariant.put c.append.ensures.frames;
      fits = fits_less c.loop-out.sent.items c.append.new.sent.items c.args.place c.out-item.result (drop (c.loop-out.out-index + 1) c.args.outgoing.now)
          (drop c.loop-out.out-index c.args.outgoing.now) cut c.loop-out.invariant.fits c.append.ensures.len c.append.ensures.one_used;
    }
