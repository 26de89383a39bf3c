use Rattle.std.proofs.Common.{refl}
use Rattle.node_journal.proofs.SlipLists.{none_in}
use Rattle.node_journal.proofs.blocks.get.Goals as goal

pub returns-in-None-clause-none : goal.returns-in-None-clause-none
returns-in-None-clause-none c = λ _. none_in c.args.blocks.now c.args.place (c.in-None.ensures.none refl)
