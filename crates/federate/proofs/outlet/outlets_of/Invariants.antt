use Rattle.std.proofs.Common.{◌≡◌, take}
use Rattle.plan.specs.Federation.{connections_of}
use Rattle.federate.specs.Outlets.{outlets_from}
use Rattle.federate.proofs.outlet.outlets_of.Given as goal

abbrev pub invariant-loop-number : goal.invariant-loop-number
invariant-loop-number l = l.outlets.items ≡ outlets_from l.federate 0 (take l.number (connections_of l.plan))
