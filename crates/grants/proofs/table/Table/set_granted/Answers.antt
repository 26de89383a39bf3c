use Rattle.std.proofs.Common.{ap}
use Rattle.protocol.specs.FederateRecord.{FederateRecord}
use Rattle.grants.proofs.Tables.{after_one_look}
use Rattle.grants.proofs.table.Table.set_granted.Goals as goal

pub invariant_of-self : goal.invariant_of-self
invariant_of-self c =
    let t = c.self.inside in
    (after_one_look t.wiring t.federate_records.items c.as_slice.result.now t.affected.eligible c.look.new.self.eligible t.affected.looks c.look.new.self.looks
    c.args.federate c.index_mut-federate_record.result.now c.set_granted.new.self c.args.self.now c.self.view_is c.invariant.ensures c.self.invariant c.requires
    c.index_mut-federate_record.ensures.value (ap (λ (s : FederateRecord). s.next) (c.set_granted.ensures)) (ap (λ (s : FederateRecord). s.completed) (c.set_granted.ensures)) c.as_slice.ensures.value
    c.look.ensures.eligible c.look.ensures.looks).0

pub returns-clause-looks : goal.returns-clause-looks
returns-clause-looks c =
    let t = c.self.inside in
    (after_one_look t.wiring t.federate_records.items c.as_slice.result.now t.affected.eligible c.look.new.self.eligible t.affected.looks c.look.new.self.looks
    c.args.federate c.index_mut-federate_record.result.now c.set_granted.new.self c.args.self.now c.self.view_is c.invariant.ensures c.self.invariant c.requires
    c.index_mut-federate_record.ensures.value (ap (λ (s : FederateRecord). s.next) (c.set_granted.ensures)) (ap (λ (s : FederateRecord). s.completed) (c.set_granted.ensures)) c.as_slice.ensures.value
    c.look.ensures.eligible c.look.ensures.looks).1
