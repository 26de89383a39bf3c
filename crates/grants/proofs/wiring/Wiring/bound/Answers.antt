use Rattle.std.proofs.Common.{◌∙◌, ap, subst}
use Rattle.protocol.specs.FederateRecords.{federate_record_at}
use Rattle.grants.specs.Wiring.{IsWiring}
use Rattle.grants.specs.Routes.{Routed}
use Rattle.grants.proofs.Arrivals.{bound_is}
use Rattle.grants.proofs.Routed.{routes_are, upstream_there, incoming_there}
use Rattle.grants.proofs.wiring.Wiring.bound.Goals as goal

pub first_upstream-by_paths-requires : goal.first_upstream-by_paths-requires
first_upstream-by_paths-requires c =
    let w = c.self.inside in
    let at = routes_are w.routes.items w.connections.items w.stop c.args.self.now c.args.federate c.index-routes.result.now c.self.view_is c.self.invariant.1 c.requires.federate
    c.index-routes.ensures in
    upstream_there c.args.self.now c.args.federate _ c.index-routes.result.now c.upstream.result.now at c.upstream.ensures c.requires.count

pub first_incoming-by_connections-requires : goal.first_incoming-by_connections-requires
first_incoming-by_connections-requires c =
    let w = c.self.inside in
    let at = routes_are w.routes.items w.connections.items w.stop c.args.self.now c.args.federate c.index-routes.result.now c.self.view_is c.self.invariant.1 c.requires.federate
    c.index-routes.ensures in
    incoming_there c.args.self.now c.args.federate _ c.index-routes.result.now c.incoming.result.now (subst IsWiring c.self.view_is c.self.invariant.0) at
    c.incoming.ensures c.requires.count

pub returns : goal.returns
returns c =
    let w = c.self.inside in
    let at = routes_are w.routes.items w.connections.items w.stop c.args.self.now c.args.federate c.index-routes.result.now c.self.view_is c.self.invariant.1 c.requires.federate
    c.index-routes.ensures in
    bound_is c.args.self.now (federate_record_at c.args.federate_records.now) c.args.federate c.upstream.result.now c.incoming.result.now c.first_upstream-by_paths.result
    c.first_incoming-by_connections.result c.greater.result (c.upstream.ensures ∙ ap (λ (r : Routed). r.upstream) at)
    (c.incoming.ensures ∙ ap (λ (r : Routed). r.incoming) at) c.first_upstream-by_paths.ensures c.first_incoming-by_connections.ensures c.greater.ensures
