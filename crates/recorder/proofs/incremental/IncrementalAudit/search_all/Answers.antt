use Rattle.std.proofs.Common.{◌∙◌, sym, map}
use Rattle.recorder.specs.Placing.{initial_of}
use Rattle.recorder.proofs.Ahead.{read_on_longer}
use Rattle.recorder.proofs.incremental.IncrementalAudit.search_all.Goals as goal

pub read_to_end-requires : goal.read_to_end-requires
read_to_end-requires c = record { sized = (c.self.invariant.ahead c.if-self.false).sized ∙ sym (rw (← c.self.view_is) at c.requires.sized) }

pub returns-clause-searched : goal.returns-clause-searched
returns-clause-searched c = rw (← c.self.view_is)
    (read_on_longer (initial_of c.self.inside.plan.now c.self.inside.programs.now c.self.inside.inputs.now) c.self.inside.auditor c.self.inside.reading c.self.inside.known.items
    (map (λ j. j.now) c.args.journals.now) c.read_to_end.result c.longer_journals_are_read.ensures (c.self.invariant.ahead c.if-self.false)
    (rw c.deref.ensures.value at (c.are_prefixes.ensures.0 c.if-not-are_prefixes.false).1) c.read_to_end.ensures.found)
