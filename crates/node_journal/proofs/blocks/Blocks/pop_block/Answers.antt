use Rattle.std.proofs.Common.{refl, arith}
use Rattle.node_journal.specs.Slips.{slips_of}
use Rattle.node_journal.proofs.SlipLists.{count_without}
use Rattle.node_journal.proofs.blocks.Blocks.pop_block.Goals as goal

pub overflow_sub-self : goal.overflow_sub-self
overflow_sub-self c =
    let less = count_without (slips_of c.self.inside.blocks.items) (slips_of c.pop_block.new.blocks.items) c.args.place c.args.block.now c.self.inside.count
    (c.if-not-pop_block.ensures.popped refl) c.self.invariant.counted in
    omega (arith, less.0, c.len.ensures)
