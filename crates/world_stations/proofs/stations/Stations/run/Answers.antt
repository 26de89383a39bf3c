use Rattle.world_stations.proofs.Stepping.{step_more}
use Rattle.world_stations.proofs.stations.Stations.run.Goals as goal

pub loop-step-preserved : goal.loop-step-preserved
loop-step-preserved g c =
    step_more g.H.Node.core g.M.Node.core c.args.self.now c.loop-step.self c.apply.new.self c.args.steps.now c.loop-step.step-index _ c.in_ok-apply.field-0
    c.loop-step-test.true c.loop-step.invariant c.in_ok-apply.ensures.done
