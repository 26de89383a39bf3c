use Rattle.recorder.proofs.incremental.read_to_end.Goals as goal

pub returns-clause-found : goal.returns-clause-found
returns-clause-found c = c.in_ok-found.ensures
