use Rattle.recorder.proofs.auditor.Auditor.step_of.Goals as goal

pub returns-clause-found : goal.returns-clause-found
returns-clause-found c = rw (← c.self.view_is) c.step_of.ensures.found

pub returns-clause-none : goal.returns-clause-none
returns-clause-none c = rw (← c.self.view_is) c.step_of.ensures.none
