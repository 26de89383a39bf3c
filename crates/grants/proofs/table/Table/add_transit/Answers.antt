use Rattle.grants.proofs.Tables.{after_transit}
use Rattle.grants.proofs.table.Table.add_transit.Goals as goal

pub invariant_of-self : goal.invariant_of-self
invariant_of-self c =
    let t = c.self.inside in
    after_transit t.wiring t.federate_records.items t.affected.eligible t.affected.looks c.args.federate c.index_mut-federate_record.result.now c.add_transit.new.self
    c.add_transit.new.self.transit c.args.self.now c.self.view_is c.invariant.ensures c.self.invariant c.requires c.index_mut-federate_record.ensures.value c.add_transit.ensures.others
