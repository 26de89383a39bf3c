use Rattle.whole.proofs.Turns.{kept_let_go}
use Rattle.whole.proofs.whole.Whole.discard.Goals as goal

pub invariant_of-self : goal.invariant_of-self
invariant_of-self c =
    rw (c.len.ensures, c.clear.ensures)
    (kept_let_go c.self.inside.plan.now c.self.inside.inputs.now c.self.inside.reactors.items c.self.inside.agendas c.self.inside.discarded
    c.self.inside.rows c.self.invariant)
