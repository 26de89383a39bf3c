use Rattle.std.proofs.Common.{◌≡◌, ◌<◌, ◌∙◌, ap, length, refl, subst, arith}
use Rattle.tag.specs.LogicalTime.{is_before}
use Rattle.protocol.specs.FederateRecords.{federate_record_at}
use Rattle.protocol.specs.Grant.{bound_of}
use Rattle.grants.specs.Wiring.{Wiring, IsWiring, least_by, network_by}
use Rattle.grants.proofs.Tables.{federate_record_is, waits, waits_not}
use Rattle.grants.proofs.wiring.Wiring.is_eligible.Goals as goal

pub returns-then-is_waiting : goal.returns-then-is_waiting
returns-then-is_waiting c =
    let s = c.index-federate_records-federate.result in
    let within : c.args.federate < length c.args.federate_records.now = omega (arith, c.requires.count, c.requires.federate) in
    let here : s ≡ federate_record_at c.args.federate_records.now c.args.federate = federate_record_is c.args.federate_records.now c.args.federate s within c.index-federate_records-federate.is in
    let self = c.args.self.now in
    let bound = bound_of (network_by self) (least_by self) (federate_record_at c.args.federate_records.now) c.args.federate in
    waits self c.args.federate_records.now c.args.federate s c.self.inside.stop bound c.is_waiting.result c.passes.result
    (subst IsWiring c.self.view_is c.self.invariant.0) here (ap (λ (w : Wiring). w.stop) c.self.view_is) c.is_waiting.ensures c.if-is_waiting.true refl
    (c.passes.ensures ∙ ap (λ g. is_before g bound) c.next.ensures)

pub returns-else-is_waiting : goal.returns-else-is_waiting
returns-else-is_waiting c =
    let s = c.index-federate_records-federate.result in
    let within : c.args.federate < length c.args.federate_records.now = omega (arith, c.requires.count, c.requires.federate) in
    let here : s ≡ federate_record_at c.args.federate_records.now c.args.federate = federate_record_is c.args.federate_records.now c.args.federate s within c.index-federate_records-federate.is in
    waits_not c.args.self.now c.args.federate_records.now c.args.federate s c.self.inside.stop c.is_waiting.result (subst IsWiring c.self.view_is c.self.invariant.0) here
    (ap (λ (w : Wiring). w.stop) c.self.view_is) c.is_waiting.ensures c.if-is_waiting.false
