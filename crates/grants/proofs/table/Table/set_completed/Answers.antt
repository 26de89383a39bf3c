use Rattle.grants.specs.Routes.{leads}
use Rattle.grants.proofs.Tables.{after_completed, all_there, connected_looks}
use Rattle.grants.proofs.table.Table.set_completed.Goals as goal

pub look_at_each-requires-clause-federates : goal.look_at_each-requires-clause-federates
look_at_each-requires-clause-federates c =
    all_there c.self.inside.wiring (leads c.self.inside.wiring.connections c.args.federate) c.connected_to-federates.result.now c.connected_to-federates.ensures

pub invariant_of-self : goal.invariant_of-self
invariant_of-self c =
    let t = c.self.inside in
    (after_completed t.wiring t.federate_records.items c.as_slice.result.now t.affected.eligible c.look_at_each.new.self.eligible t.affected.looks c.look_at_each.new.self.looks c.args.federate
    c.connected_to-federates.result.now c.index_mut-federate_record.result.now c.set_completed.new.self c.args.completed c.args.self.now c.self.view_is c.invariant.ensures c.self.invariant c.requires
    c.index_mut-federate_record.ensures.value c.set_completed.ensures c.as_slice.ensures.value c.connected_to-federates.ensures c.look_at_each.ensures.eligible c.look_at_each.ensures.looks).0

pub returns-clause-few_looks : goal.returns-clause-few_looks
returns-clause-few_looks c =
    let t = c.self.inside in
    connected_looks t.wiring t.federate_records.items t.affected.looks c.look_at_each.new.self.looks c.args.federate c.connected_to-federates.result.now c.args.self.now c.self.view_is
    c.connected_to-federates.ensures c.look_at_each.ensures.looks

pub returns-clause-looks : goal.returns-clause-looks
returns-clause-looks c =
    let t = c.self.inside in
    (after_completed t.wiring t.federate_records.items c.as_slice.result.now t.affected.eligible c.look_at_each.new.self.eligible t.affected.looks c.look_at_each.new.self.looks c.args.federate
    c.connected_to-federates.result.now c.index_mut-federate_record.result.now c.set_completed.new.self c.args.completed c.args.self.now c.self.view_is c.invariant.ensures c.self.invariant c.requires
    c.index_mut-federate_record.ensures.value c.set_completed.ensures c.as_slice.ensures.value c.connected_to-federates.ensures c.look_at_each.ensures.eligible c.look_at_each.ensures.looks).1
