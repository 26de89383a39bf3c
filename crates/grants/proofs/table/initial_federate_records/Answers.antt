use Rattle.grants.proofs.Routed.{initial_more}
use Rattle.grants.proofs.table.initial_federate_records.Goals as goal

pub loop-federate-preserved : goal.loop-federate-preserved
loop-federate-preserved c =
    initial_more c.loop-federate._federate c.loop-federate.federate_records.items c.push.new.self.items c.new.result c.loop-federate.invariant c.new.ensures
    c.in_ok-push.ensures.items
