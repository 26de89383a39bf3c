use Rattle.std.specs.Prelude.{filter}
use Rattle.tag.specs.LogicalTime.{is_before}
use Rattle.grants.proofs.Tables.{after_transit}
use Rattle.grants.proofs.table.Table.drop_transit.Goals as goal

pub invariant_of-self : goal.invariant_of-self
invariant_of-self c =
    let t = c.self.inside in
    after_transit t.wiring t.federate_records.items t.affected.eligible t.affected.looks c.args.federate c.index_mut-federate_record.result.now c.drop_transit.new.self
    (filter (λ g. is_before c.args.completed g) c.index_mut-federate_record.result.now.transit) c.args.self.now c.self.view_is c.invariant.ensures c.self.invariant c.requires c.index_mut-federate_record.ensures.value c.drop_transit.ensures
