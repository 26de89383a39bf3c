use Rattle.std.proofs.Common.{◌≡◌}
use Rattle.grants.specs.Wiring.{federation_wiring}
use Rattle.grants.specs.Routes.{routed_below}
use Rattle.grants.proofs.wiring.routes_of.Given as goal

abbrev pub invariant-loop-federate : goal.invariant-loop-federate
invariant-loop-federate l = l.routes.items ≡ routed_below (federation_wiring l.plan) l.federate
