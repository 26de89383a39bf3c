use Rattle.grants.proofs.Tables.{none_eligible}
use Rattle.grants.proofs.table.Table.has_eligible.Goals as goal

pub returns : goal.returns
returns c =
    let t = c.self.inside in
    none_eligible t.wiring t.federate_records.items t.affected.eligible t.affected.looks c.has_eligible.result c.args.self.now c.self.view_is c.self.invariant c.has_eligible.ensures
