use Rattle.std.proofs.Common.{subst}
use Rattle.node.specs.Core.{IsCall, SendsOnly}
use Rattle.node_cores.specs.CoordinatorCore.{CoordinatorNode, accepts, coordinator_may_send}
use Rattle.coordinator.proofs.Keeping.{node_with, stays_kept, call_lifts, sends_in_order}
use Rattle.coordinator.proofs.coordinator.CoordinatorNode.accept.Goals as goal

pub invariant_of-self : goal.invariant_of-self
invariant_of-self c =
    stays_kept c.self.inside.plan.now c.self.inside.state.table c.take.new.self.table c.args.outbox.now.mail c.take.new.outbox.mail c.take.result c.args.peer c.args.signal
    c.self.invariant c.invariant.ensures c.signal_invariant.ensures c.take.ensures

pub returns-clause-call : goal.returns-clause-call
returns-clause-call c unless =
    let P : CoordinatorNode → Type 0 = λ v. IsCall v (node_with c.self.inside.plan.now c.take.new.self.table.federate_records) c.args.outbox.now.mail c.take.new.outbox.mail c.take.result (accepts v c.args.peer c.args.signal) in
    subst P c.self.view_is
    (call_lifts c.self.inside.plan.now c.self.inside.state.table c.take.new.self.table c.args.outbox.now.mail c.take.new.outbox.mail c.take.result c.args.peer c.args.signal c.self.invariant.wiring c.take.ensures unless)

pub returns-clause-lawful : goal.returns-clause-lawful
returns-clause-lawful c =
    let P : CoordinatorNode → Type 0 = λ v. SendsOnly (coordinator_may_send v) (accepts v c.args.peer c.args.signal) in
    subst P c.self.view_is (sends_in_order c.self.inside.plan.now c.self.inside.state.table c.args.peer c.args.signal c.self.invariant c.invariant.ensures c.signal_invariant.ensures)
