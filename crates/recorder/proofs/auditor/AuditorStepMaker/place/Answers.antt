use Rattle.recorder.proofs.auditor.AuditorStepMaker.place.Goals as goal

pub returns-in_default-clause-placed : goal.returns-in_default-clause-placed
returns-in_default-clause-placed c = (c.miss.ensures, λ exact. c.step_of.ensures.none c.in_default.is exact)

pub make-requires : goal.make-requires
make-requires c = c.in-Some.ensures.found
