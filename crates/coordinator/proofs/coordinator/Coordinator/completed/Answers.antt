use Rattle.std.proofs.Common.{◌≡◌, ◌≤◌, length, sym, ap, arith}
use Rattle.std.proofs.lemmas.List.{get_or_past}
use Rattle.protocol.specs.FederateRecord.{FederateRecord, initial_federate_record}
use Rattle.node_cores.specs.CoordinatorCore.{CoordinatorNode}
use Rattle.coordinator.proofs.coordinator.Coordinator.completed.Goals as goal

-- beyond the list's end stands the initial record, of which nothing is known
pub returns-else-federate-federates : goal.returns-else-federate-federates
returns-else-federate-federates c =
    let records = c.args.self.now.federate_records in
    let seen : length c.self.inside.state.table.federate_records ≡ length records = ap (λ (node : CoordinatorNode). length node.federate_records) c.self.view_is in
    let past : length records ≤ c.args.federate = omega (arith, seen, c.invariant.ensures.count) in
    sym (ap (λ (record_of : FederateRecord). record_of.completed) (get_or_past records c.args.federate initial_federate_record past))
