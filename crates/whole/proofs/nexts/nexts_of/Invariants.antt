use Rattle.whole.specs.Agendas.{next_on}
use Rattle.whole.proofs.Filled.{IsFilled}
use Rattle.whole.proofs.nexts.nexts_of.Given as goal

abbrev pub invariant-loop-federate : goal.invariant-loop-federate
invariant-loop-federate l = IsFilled (λ x. x) l.nexts.items l.federate (next_on l.plan l.agendas)
