use Rattle.std.proofs.Common.{◌<◌, length, inr, sym, ◌∙◌, arith}
use Rattle.std.proofs.lemmas.Bool.Decides.{nat_tests}
use Rattle.signal.proofs.Taken.{longer, at_end, stops}
use Rattle.signal.proofs.pieces.piece_size.Goals as goal

pub loop-size-preserved : goal.loop-size-preserved
loop-size-preserved c =
    let frames = c.args.frames.now in
    let size = c.loop-size.size in
    let last = c.index-frames-size.result in
    let next = c.index-frames-size-then-size-frames.result in
    let fits : size < length frames = grind (arith, nat_tests) in
    let place : size < c.args.most = grind (arith, nat_tests) in
    record {
      some = omega arith;
      within = omega arith;
      few = omega arith;
      stretch = longer frames size last next c.loop-size.invariant.some fits c.index-frames-size.is c.index-frames-size-then-size-frames.is
          (sym c.follows.ensures ∙ c.if-follows.true) c.loop-size.invariant.stretch;
    }

pub returns-else-follows-clause-longest : goal.returns-else-follows-clause-longest
returns-else-follows-clause-longest c =
    let frames = c.args.frames.now in
    let size = c.loop-size.size in
    let last = c.index-frames-size.result in
    let next = c.index-frames-size-then-size-frames.result in
    let fits : size < length frames = grind (arith, nat_tests) in
    inr (stops frames size last next c.loop-size.invariant.some fits c.index-frames-size.is c.index-frames-size-then-size-frames.is
    (sym c.follows.ensures ∙ c.if-follows.false))

pub returns-else-size-frames-clause-longest : goal.returns-else-size-frames-clause-longest
returns-else-size-frames-clause-longest c = inr (at_end c.args.frames.now c.loop-size.size (grind (arith, nat_tests)))
