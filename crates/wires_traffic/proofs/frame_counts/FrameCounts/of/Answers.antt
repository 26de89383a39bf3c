use Rattle.std.proofs.Common.{◌≡◌, [], sym, subst}
use Rattle.std.proofs.lemmas.List.{take_all}
use Rattle.wires_traffic.specs.Kinds.{number_of}
use Rattle.wires_traffic.specs.Sums.{count_of, kept}
use Rattle.wires_traffic.proofs.Counted.{none_counted, counted_more}
use Rattle.wires_traffic.proofs.frame_counts.FrameCounts.of.Goals as goal

pub loop-frame-init : goal.loop-frame-init
loop-frame-init c = λ kind.
    subst (λ counts. count_of kind counts ≡ kept (number_of kind c.args.before [])) (sym c.none-counts.ensures) (none_counted kind c.args.before)

pub loop-frame-preserved : goal.loop-frame-preserved
loop-frame-preserved c = λ kind.
    counted_more kind c.args.before c.args.frames.now c.loop-frame.frame-index c.frame-item.result c.of.result c.loop-frame.counts c.add.new.self
    c.loop-frame-test.true c.frame-item.is c.of.ensures c.add.ensures (c.loop-frame.invariant kind)

pub returns : goal.returns
returns c = λ kind.
    subst (λ list. count_of kind c.loop-frame.counts ≡ kept (number_of kind c.args.before list)) (take_all c.loop-frame.frame-index c.args.frames.now c.loop-frame-test.false) (c.loop-frame.invariant kind)
