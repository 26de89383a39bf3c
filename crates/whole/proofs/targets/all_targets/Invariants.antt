use Rattle.plan.specs.Federation.{connections_of, federate_count}
use Rattle.whole.specs.Targets.{all_shown, targets_below}
use Rattle.whole.proofs.Filled.{IsFilled}
use Rattle.whole.proofs.targets.all_targets.Given as goal

abbrev pub invariant-loop-federate : goal.invariant-loop-federate
invariant-loop-federate l = IsFilled (λ ts. all_shown ts.items) l.targets.items l.federate (λ f. targets_below (connections_of l.plan) f (federate_count l.plan))
