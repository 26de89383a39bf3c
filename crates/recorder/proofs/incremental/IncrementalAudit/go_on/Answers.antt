use Rattle.std.proofs.Common.{◌∙◌, map, sym, ap}
use Rattle.recorder.specs.Placing.{initial_of}
use Rattle.recorder.proofs.Ahead.{begun_on, reads_on}
use Rattle.recorder.proofs.incremental.IncrementalAudit.go_on.Goals as goal

pub invariant_of-self-2 : goal.invariant_of-self-2
invariant_of-self-2 c =
    begun_on (initial_of c.self.inside.plan.now c.self.inside.programs.now c.self.inside.inputs.now) c.self.inside.auditor c.self.inside.reading c.self.inside.known.items
    c.self.inside.known.items c.self.inside.is_given_up c.self.invariant c.read_ahead.result c.read_ahead.new.step_maker c.read_ahead.new.self c.if-self.false
    (sym c.is_err.ensures.value ∙ c.if-is_err.false)
    (reads_on c.read_ahead.result c.self.inside.known.items (map (λ j. j.now) c.deref-2.result.now) c.self.inside.auditor c.read_ahead.new.step_maker c.self.inside.reading c.read_ahead.new.self
    (ap (map (λ j. j.now)) c.deref-2.ensures.value ∙ c.in-Ok.ensures ∙ c.deref.ensures.value) c.read_ahead.ensures.reading c.read_ahead.ensures.sized)
