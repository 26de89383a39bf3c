use Rattle.std.proofs.Common.{◌+◌, ◌*◌, arith}
use Rattle.whole.proofs.Firsts.{widened}
use Rattle.whole.proofs.nexts.first_of_block.Goals as goal

pub returns : goal.returns
returns c =
    let high = c.min.ensures in
    widened c.args.nexts.now (c.args.block * 8) c.min.result (c.args.block * 8 + 8) c.first_among.result (omega arith) (λ k there under. omega arith) c.first_among.ensures
