use Rattle.std.proofs.Common.{arith}
use Rattle.expand_federation.proofs.Documents.{parted_none}
use Rattle.expand_federation.proofs.scratch.+check_all.Goals as goal

pub returns-in-empty : goal.returns-in-empty
returns-in-empty t c = parted_none c.check_scratch.result c.args.own.now c.args.states.now c.args.all.now (omega arith) c.check_scratch.ensures
