use Rattle.std.proofs.Common.{◌+◌, ◌-◌, arith}
use Rattle.node_journal.proofs.SlipLists.{last_slip}
use Rattle.node_journal.proofs.placed_block.PlacedBlock.last.Goals as goal

pub returns : goal.returns
returns c =
    let long = c.len.ensures in
    let some = c.requires.some in
    last_slip c.args.self.now.place c.args.self.now.block c.last.ensures.0 c.last.result (c.args.self.now.place + (c.len.result - 1)) c.last.ensures.1 (omega arith)
