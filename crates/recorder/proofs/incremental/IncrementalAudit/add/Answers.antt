use Rattle.recorder.specs.Placing.{initial_of}
use Rattle.recorder.proofs.Ahead.{begun_more}
use Rattle.recorder.proofs.incremental.IncrementalAudit.add.Goals as goal

pub invariant_of-self : goal.invariant_of-self
invariant_of-self c =
    begun_more (initial_of c.self.inside.plan.now c.self.inside.programs.now c.self.inside.inputs.now) c.self.inside.auditor c.self.inside.reading c.self.inside.known.items
    c.add_to.new.known.items c.self.inside.is_given_up c.self.invariant c.add_to.result c.place_of.result c.args.events.now c.longer_journals_are_read.ensures
    c.add_to.ensures.added c.add_to.ensures.unchanged
