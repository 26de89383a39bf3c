use Rattle.std.proofs.Common.{◌≡◌, true, false, refl, sym, ◌∙◌, ap, subst}
use Rattle.tag.specs.LogicalTime.{is_before, greater}
use Rattle.protocol.specs.Grant.{bound_of}
use Rattle.protocol.specs.FederateRecords.{federate_record_at}
use Rattle.grants.specs.Bounds.{first_incoming, first_upstream}
use Rattle.grants.specs.Wiring.{IsWiring, least_by, network_by}
use Rattle.grants.specs.Routes.{Routed, upstream_of}
use Rattle.grants.proofs.Arrivals.{bound_is}
use Rattle.protocol_laws.proofs.SafeGrants.{greater_from_second}
use Rattle.grants.proofs.Passing.{passes_other}
use Rattle.grants.proofs.Routed.{routes_are, upstream_there, incoming_there}
use Rattle.grants.proofs.wiring.Wiring.passes.Goals as goal

pub passes_incoming-requires : goal.passes_incoming-requires
passes_incoming-requires c =
    let w = c.self.inside in
    let at = routes_are w.routes.items w.connections.items w.stop c.args.self.now c.args.federate c.index-routes.result.now c.self.view_is c.self.invariant.1 c.requires.federate
    c.index-routes.ensures in
    incoming_there c.args.self.now c.args.federate _ c.index-routes.result.now c.incoming.result.now (subst IsWiring c.self.view_is c.self.invariant.0) at
    c.incoming.ensures c.requires.count

pub passes_upstream-requires : goal.passes_upstream-requires
passes_upstream-requires c =
    let w = c.self.inside in
    let at = routes_are w.routes.items w.connections.items w.stop c.args.self.now c.args.federate c.index-routes.result.now c.self.view_is c.self.invariant.1 c.requires.federate
    c.index-routes.ensures in
    upstream_there c.args.self.now c.args.federate _ c.index-routes.result.now c.upstream.result.now at c.upstream.ensures c.requires.count

pub returns-then-passes_incoming : goal.returns-then-passes_incoming
returns-then-passes_incoming c =
    let w = c.self.inside in
    let self = c.args.self.now in
    let federate_records = federate_record_at c.args.federate_records.now in
    let at = routes_are w.routes.items w.connections.items w.stop self c.args.federate c.index-routes.result.now c.self.view_is c.self.invariant.1 c.requires.federate
    c.index-routes.ensures in
    let upstream = upstream_of (least_by self) c.args.federate self.federates in
    let paths = first_upstream federate_records upstream in
    let connections = first_incoming federate_records c.incoming.result.now in
    let bound : greater paths connections ≡ bound_of (network_by self) (least_by self) federate_records c.args.federate =
    bound_is self federate_records c.args.federate upstream c.incoming.result.now paths connections (greater paths connections) refl
    (c.incoming.ensures ∙ ap (λ (r : Routed). r.incoming) at) refl refl refl in
    let passed : is_before c.args.tag connections ≡ true = sym c.passes_incoming.ensures ∙ c.if-passes_incoming.true in
    c.if-passes_incoming.true ∙ sym (greater_from_second c.args.tag paths connections passed) ∙ ap (is_before c.args.tag) bound

pub returns-else-passes_incoming : goal.returns-else-passes_incoming
returns-else-passes_incoming c =
    let w = c.self.inside in
    let self = c.args.self.now in
    let federate_records = federate_record_at c.args.federate_records.now in
    let at = routes_are w.routes.items w.connections.items w.stop self c.args.federate c.index-routes.result.now c.self.view_is c.self.invariant.1 c.requires.federate
    c.index-routes.ensures in
    let paths = first_upstream federate_records c.upstream.result.now in
    let connections = first_incoming federate_records c.incoming.result.now in
    let bound : greater paths connections ≡ bound_of (network_by self) (least_by self) federate_records c.args.federate =
    bound_is self federate_records c.args.federate c.upstream.result.now c.incoming.result.now paths connections (greater paths connections)
    (c.upstream.ensures ∙ ap (λ (r : Routed). r.upstream) at) (c.incoming.ensures ∙ ap (λ (r : Routed). r.incoming) at) refl refl refl in
    let failed : is_before c.args.tag connections ≡ false = sym c.passes_incoming.ensures ∙ c.if-passes_incoming.false in
    c.passes_upstream.ensures ∙ sym (passes_other c.args.tag paths connections failed) ∙ ap (is_before c.args.tag) bound
