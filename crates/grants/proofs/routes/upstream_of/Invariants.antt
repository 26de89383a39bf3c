use Rattle.std.proofs.Common.{◌≡◌}
use Rattle.grants.specs.Wiring.{federation_wiring, least_by}
use Rattle.grants.specs.Routes.{upstream_of}
use Rattle.grants.proofs.routes.upstream_of.Given as goal

abbrev pub invariant-loop-from : goal.invariant-loop-from
invariant-loop-from l = l.upstream.items ≡ upstream_of (least_by (federation_wiring l.plan)) l.federate l.from
