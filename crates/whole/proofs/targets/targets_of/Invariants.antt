use Rattle.std.proofs.Common.{◌≡◌}
use Rattle.plan.specs.Federation.{connections_of}
use Rattle.whole.specs.Targets.{all_shown, targets_below}
use Rattle.whole.proofs.targets.targets_of.Given as goal

abbrev pub invariant-loop-federate : goal.invariant-loop-federate
invariant-loop-federate l = all_shown l.targets.items ≡ targets_below (connections_of l.plan) l.source l.federate
