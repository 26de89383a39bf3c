use Rattle.grants.specs.Routes.{may_change}
use Rattle.grants.proofs.Tables.{all_there, counts_looks, few_looks, kept_after_looks, affected_are_few}
use Rattle.grants.proofs.table.Table.set_next.Goals as goal

pub look_at_each-requires-clause-federates : goal.look_at_each-requires-clause-federates
look_at_each-requires-clause-federates c = all_there c.self.inside.wiring (may_change c.self.inside.wiring c.args.federate) c.affected_by-federates.result.now c.affected_by-federates.ensures

pub invariant_of-self : goal.invariant_of-self
invariant_of-self c =
    let t = c.self.inside in
    kept_after_looks t.wiring t.federate_records.items c.as_slice.result.now t.affected.eligible c.look_at_each.new.self.eligible c.args.federate
    c.affected_by-federates.result.now c.set_next.new.self c.invariant.ensures c.self.invariant c.as_slice.ensures.value c.affected_by-federates.ensures
    c.look_at_each.ensures.eligible

pub returns-clause-few_looks : goal.returns-clause-few_looks
returns-clause-few_looks c =
    let t = c.self.inside in
    few_looks t.wiring t.federate_records.items t.affected.looks c.look_at_each.new.self.looks c.args.federate c.affected_by-federates.result.now c.args.self.now c.self.view_is
    (affected_are_few t.wiring c.args.federate c.affected_by-federates.result.now c.affected_by-federates.ensures) c.look_at_each.ensures.looks

pub returns-clause-looks : goal.returns-clause-looks
returns-clause-looks c =
    let t = c.self.inside in
    counts_looks t.wiring t.federate_records.items t.affected.looks c.look_at_each.new.self.looks c.args.federate c.affected_by-federates.result.now c.set_next.new.self c.args.self.now
    c.self.view_is c.invariant.ensures c.affected_by-federates.ensures c.look_at_each.ensures.looks
