use Rattle.world_stations.proofs.Initial.{ends_more}
use Rattle.world.proofs.initial.new_ends.Goals as goal

pub loop-federate-preserved : goal.loop-federate-preserved
loop-federate-preserved c =
    ends_more c.loop-federate.ends.items c.push.new.self.items c.new_end.result c.loop-federate.federate c.in_ok-push.ensures.items c.new_end.ensures c.loop-federate.invariant
