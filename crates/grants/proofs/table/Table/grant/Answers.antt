use Rattle.std.proofs.Common.{◌∙◌, ap}
use Rattle.tag.specs.LogicalTime.{is_before, lesser, origin, predecessor_of}
use Rattle.protocol.specs.FederateRecords.{federate_record_at}
use Rattle.protocol.specs.Grant.{bound_of}
use Rattle.grants.specs.Wiring.{least_by, network_by}
use Rattle.grants.proofs.Tables.{bound_is_late, widest}
use Rattle.grants.proofs.table.Table.grant.Goals as goal

pub last_before-requires : goal.last_before-requires
last_before-requires c =
    let t = c.self.inside in
    let bound = c.bound-bound.ensures ∙ ap (λ ss. bound_of (network_by t.wiring) (least_by t.wiring) (federate_record_at ss) c.args.federate) c.as_slice.ensures.value in
    ap (is_before origin) bound ∙ bound_is_late t.wiring t.federate_records.items t.affected.looks c.args.federate c.args.self.now c.self.view_is c.invariant.ensures c.requires.eligible

pub returns-clause-widest : goal.returns-clause-widest
returns-clause-widest c =
    let t = c.self.inside in
    let bound = c.bound-bound.ensures ∙ ap (λ ss. bound_of (network_by t.wiring) (least_by t.wiring) (federate_record_at ss) c.args.federate) c.as_slice.ensures.value in
    widest t.wiring t.federate_records.items t.affected.looks c.args.federate c.args.self.now c.bound-bound.result c.last_before.result c.self.view_is c.invariant.ensures bound
    (c.last_before.ensures ∙ ap (lesser (predecessor_of c.bound-bound.result)) c.stop.ensures)
