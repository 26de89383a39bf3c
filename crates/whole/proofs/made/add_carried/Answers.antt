use Rattle.std.proofs.Common.{arith}
use Rattle.whole.specs.Construction.{carried_over}
use Rattle.whole.proofs.Steps.{collected}
use Rattle.whole.proofs.made.add_carried.Goals as goal

pub loop-connection-preserved : goal.loop-connection-preserved
loop-connection-preserved c =
    collected (carried_over c.args.turn.now) c.args.events.now.items c.loop-connection.events.items c.add_carried_over.new.events.items c.args.connections.now c.loop-connection.connection-index c.connection-item.result
    (omega arith) c.connection-item.is c.loop-connection.invariant c.in_ok-add_carried_over.ensures
