use Rattle.recorder.proofs.auditor.place_of.Goals as goal

pub returns-then-exact-clause-none : goal.returns-then-exact-clause-none
returns-then-exact-clause-none c = λ none exact k there. c.place_anywhere.ensures.none none k there
