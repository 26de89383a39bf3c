use Rattle.node_journal.proofs.Numbered.{fewer_or_same}
use Rattle.node_journal.proofs.journal.Journal.pop.Goals as goal

pub invariant_of-self : goal.invariant_of-self
invariant_of-self c = fewer_or_same c.self.inside.slips c.pop.new.self c.pop.result c.pop.ensures.popped c.pop.ensures.unchanged c.self.invariant
