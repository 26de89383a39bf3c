use Rattle.std.proofs.Common.{◌≡◌, map, take}
use Rattle.plan.specs.Federation.{federate_names}
use Rattle.fedrun_lint_schedule.proofs.names.federate_names.Given as goal

abbrev pub invariant-loop-federate : goal.invariant-loop-federate
invariant-loop-federate l = map (λ name. name.now) l.names.items ≡ federate_names (take l.federate-index l.federates)
