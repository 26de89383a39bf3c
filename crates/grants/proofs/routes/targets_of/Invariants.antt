use Rattle.std.proofs.Common.{◌≡◌}
use Rattle.grants.specs.Routes.{leads, listed_below}
use Rattle.plan.specs.Federation.{connections_of}
use Rattle.grants.proofs.routes.targets_of.Given as goal

abbrev pub invariant-loop-to : goal.invariant-loop-to
invariant-loop-to l = l.targets.items ≡ listed_below l.to (leads (connections_of l.plan) l.federate)
