use Rattle.std.proofs.Common.{◌∙◌, sym}
use Rattle.node_journal.proofs.BlockEvents.{last_turn}
use Rattle.node_journal.proofs.block.Block.last.Goals as goal

pub returns-then-self-gt0 : goal.returns-then-self-gt0
returns-then-self-gt0 c =
    let found = last_turn c.self.inside.batch c.self.inside.used c.self.inside.turns c.turn_event.result c.if-self-gt0.true c.turn_event.ensures in
    (found.0, sym c.self.view_is ∙ found.1)
