use Rattle.std.proofs.Common.{arith, sym, ◌∙◌, ◌<◌, length}
use Rattle.plan.specs.Federation.{connections_of}
use Rattle.federate.proofs.Outlets.{outlet_here, outlet_elsewhere, few_connections}
use Rattle.federate.proofs.outlet.outlets_of.Goals as goal
use Rattle.federate.proofs.outlet.outlets_of.Goals.{then-source-federate+in_ok-push, else-source-federate}

pub overflow_cast-number : goal.overflow_cast-number
overflow_cast-number c =
    let few = few_connections c.args.plan.now c.invariant.ensures in
    let within : c.loop-number.number < length (connections_of c.args.plan.now) = rw (← c.connections-connection-items.ensures) c.loop-number-test.true in
    omega arith

pub loop-number-preserved : goal.loop-number-preserved
loop-number-preserved c =
    let within : c.loop-number.number < length (connections_of c.args.plan.now) = rw (← c.connections-connection-items.ensures) c.loop-number-test.true in
    let is = rw c.connections-connection-items.ensures at c.connection-item.is in
    elim c.if-source-federate.branch [
      | then-source-federate+in_ok-push w ↦
          rw (w.outlets-is, w.in_ok-push.ensures.items, c.loop-number.invariant)
          (sym (outlet_here c.args.federate (connections_of c.args.plan.now) c.loop-number.number c.connection-item.result within is
          (sym c.source.ensures ∙ w.if-source-federate.true)))
      | else-source-federate w ↦
          rw (w.outlets-is, c.loop-number.invariant)
          (sym (outlet_elsewhere c.args.federate (connections_of c.args.plan.now) c.loop-number.number c.connection-item.result within is
          (λ same. w.if-source-federate.false (c.source.ensures ∙ same))))
    ]
