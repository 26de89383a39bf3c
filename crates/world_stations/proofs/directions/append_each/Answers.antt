use Rattle.std.proofs.Common.{◌≡◌, ◌∙◌, ◌+◌, ◌∷◌, ◌++◌, [], arith, take, drop, drop-cons}
use Rattle.std.proofs.lemmas.List.{take_more}
use Rattle.world_stations.specs.Room.{frames_of_each}
use Rattle.world_stations.proofs.Ways.{sent_out_push, fits_first, fits_rest, used_then}
use Rattle.world_stations.proofs.directions.append_each.Goals as goal

pub append-requires : goal.append-requires
append-requires c within =
    let cut : drop c.loop-out.out-index c.args.outgoing.now ≡ c.out-item.result ∷ drop (c.loop-out.out-index + 1) c.args.outgoing.now =
    grind (arith, drop-cons c.args.outgoing.now c.loop-out.out-index c.out-item.result, c.out-item.is) in
    fits_first c.loop-out.sent.items c.out-item.result (drop (c.loop-out.out-index + 1) c.args.outgoing.now) (drop c.loop-out.out-index c.args.outgoing.now) cut
    c.loop-out.invariant.fits within

pub loop-out-preserved : goal.loop-out-preserved
loop-out-preserved c =
    let cut : drop c.loop-out.out-index c.args.outgoing.now ≡ c.out-item.result ∷ drop (c.loop-out.out-index + 1) c.args.outgoing.now =
    grind (arith, drop-cons c.args.outgoing.now c.loop-out.out-index c.out-item.result, c.out-item.is) in
    let more : take (c.loop-out.out-index + 1) c.args.outgoing.now ≡ take c.loop-out.out-index c.args.outgoing.now ++ c.out-item.result ∷ [] =
    grind (arith, take_more c.args.outgoing.now c.loop-out.out-index c.out-item.result, c.out-item.is) in
    let push = sent_out_push (frames_of_each c.args.sent.now.items) (take c.loop-out.out-index c.args.outgoing.now) c.out-item.result in
    record {
      put = rw (more, push, ← c.loop-out.invariant.put) c.append.ensures.frames;
      fits = fits_rest c.loop-out.sent.items c.append.new.sent.items c.out-item.result (drop (c.loop-out.out-index + 1) c.args.outgoing.now)
          (drop c.loop-out.out-index c.args.outgoing.now) cut c.loop-out.invariant.fits c.append.ensures.len c.append.ensures.one_used;
      few_used = λ j. used_then c.args.sent.now.items c.loop-out.sent.items c.append.new.sent.items c.out-item.result.peer c.loop-out.out-index c.loop-out.invariant.few_used c.append.ensures.one_used j;
      len = c.append.ensures.len ∙ c.loop-out.invariant.len;
    }
