use Rattle.expand_source.proofs.Copies.{one_part_more}
use Rattle.expand_source.proofs.copying.expanded.Goals as goal

pub loop-part-preserved : goal.loop-part-preserved
loop-part-preserved c =
    one_part_more c.args.parts.now c.part-item.result c.loop-part.part-index c.loop-part.text.items c.add_copies.new.text.items c.loop-part-test.true c.part-item.is c.loop-part.invariant
    c.in_ok-add_copies.ensures
