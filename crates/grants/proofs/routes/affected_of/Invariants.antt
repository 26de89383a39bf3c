use Rattle.std.proofs.Common.{◌≡◌}
use Rattle.grants.specs.Wiring.{federation_wiring}
use Rattle.grants.specs.Routes.{listed_below, may_change}
use Rattle.grants.proofs.routes.affected_of.Given as goal

abbrev pub invariant-loop-to : goal.invariant-loop-to
invariant-loop-to l = l.affected.items ≡ listed_below l.to (may_change (federation_wiring l.plan) l.federate)
