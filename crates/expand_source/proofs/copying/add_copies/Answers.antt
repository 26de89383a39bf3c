use Rattle.std.proofs.Common.{arith}
use Rattle.expand_source.proofs.Copies.{one_copy_more, all_copies}
use Rattle.expand_source.proofs.copying.add_copies.Goals as goal

pub loop-k-preserved : goal.loop-k-preserved
loop-k-preserved c =
    one_copy_more c.args.part.now c.loop-k.k c.args.text.now.items c.loop-k.text.items c.add_copy.new.text.items c.loop-k.invariant c.in_ok-add_copy.ensures

pub returns : goal.returns
returns c =
    all_copies c.args.part.now c.loop-k.k c.count-k-end.result c.args.text.now.items c.loop-k.text.items (omega arith) (omega arith) c.count-k-end.ensures c.loop-k.invariant
