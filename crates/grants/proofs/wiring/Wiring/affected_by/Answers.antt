use Rattle.std.proofs.Common.{◌∙◌, ap}
use Rattle.grants.specs.Routes.{Routed}
use Rattle.grants.proofs.Routed.{routes_are}
use Rattle.grants.proofs.wiring.Wiring.affected_by.Goals as goal

pub returns : goal.returns
returns c =
    let w = c.self.inside in
    c.affected.ensures
    ∙ ap (λ (r : Routed). r.affected)
    (routes_are w.routes.items w.connections.items w.stop c.args.self.now c.args.federate c.index.result.now c.self.view_is c.self.invariant.1 c.requires c.index.ensures)
