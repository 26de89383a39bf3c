use Rattle.world.specs.World.{stations_of}
use Rattle.fedrun_frames.proofs.Sending.{counts_more}
use Rattle.fedrun_frames.proofs.counts.counts.Goals as goal

pub loop-federate-preserved : goal.loop-federate-preserved
loop-federate-preserved c =
    counts_more (stations_of c.args.world.now) c.loop-federate.federate c.loop-federate.counts.items c.push.new.self.items c.count_at.result
    c.in_ok-push.ensures.items c.count_at.ensures c.loop-federate.invariant
