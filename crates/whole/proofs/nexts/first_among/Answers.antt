use Rattle.std.proofs.Common.{sym, ◌∙◌, arith}
use Rattle.whole.proofs.Firsts.{earlier_among, later_among}
use Rattle.whole.proofs.nexts.first_among.Goals as goal
use Rattle.whole.proofs.nexts.first_among.Goals.{then-is_earlier, else-is_earlier}

pub loop-place-preserved : goal.loop-place-preserved
loop-place-preserved c =
    let some = c.loop-place.invariant.0 in
    let high = c.requires.there in
    let low = c.loop-place-test.true in
    elim c.if-is_earlier.branch [
      | then-is_earlier w ↦ rw w.first-is (omega arith, earlier_among c.args.nexts.now c.args.low c.loop-place.place c.index-nexts-place.result c.loop-place.first some (omega arith) c.index-nexts-place.is (sym c.is_earlier.ensures ∙ w.if-is_earlier.true) c.loop-place.invariant.1)
      | else-is_earlier w ↦ rw w.first-is (omega arith, later_among c.args.nexts.now c.args.low c.loop-place.place c.index-nexts-place.result c.loop-place.first some (omega arith) c.index-nexts-place.is (sym c.is_earlier.ensures ∙ w.if-is_earlier.false) c.loop-place.invariant.1)
    ]
