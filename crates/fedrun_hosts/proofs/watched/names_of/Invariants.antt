use Rattle.std.proofs.Common.{◌≡◌, take}
use Rattle.plan.specs.Federation.{federate_names}
use Rattle.fedrun_hosts.proofs.watched.names_of.Given as goal

abbrev pub invariant-loop-federate : goal.invariant-loop-federate
invariant-loop-federate l = l.names.items ≡ federate_names (take l.federate-index l.federates)
