use Rattle.std.proofs.Common.{◌≡◌, ◌∙◌, ap, length}
use Rattle.plan.specs.Federation.{stop_of}
use Rattle.grants.specs.Wiring.{federation_wiring}
use Rattle.grants.proofs.Routed.{wiring_made, wiring_made_is}
use Rattle.grants.proofs.wiring.Wiring.new.Goals as goal

pub returns : goal.returns
returns c =
    let stop : c.stop_tag-stop.result ≡ stop_of c.args.plan.now = c.stop_tag-stop.ensures in
    wiring_made c.args.plan.now c.in_ok-routes.routes.items c.in_ok-connections.connections.items c.stop_tag-stop.result c.in_ok-routes.ensures
    (c.in_ok-connections.ensures ∙ c.connections.ensures) stop

pub invariant_of-result : goal.invariant_of-result
invariant_of-result c =
    let stop : c.stop_tag-stop.result ≡ stop_of c.args.plan.now = c.stop_tag-stop.ensures in
    let made : record { federates = length c.in_ok-routes.routes.items; connections = c.in_ok-connections.connections.items; stop = c.stop_tag-stop.result } ≡ federation_wiring c.args.plan.now =
    wiring_made c.args.plan.now c.in_ok-routes.routes.items c.in_ok-connections.connections.items c.stop_tag-stop.result c.in_ok-routes.ensures
    (c.in_ok-connections.ensures ∙ c.connections.ensures) stop in
    wiring_made_is c.args.plan.now c.in_ok-routes.routes.items
    (record { federates = length c.in_ok-routes.routes.items; connections = c.in_ok-connections.connections.items; stop = c.stop_tag-stop.result }) c.invariant.ensures
    c.in_ok-routes.ensures made
