use Rattle.world.proofs.InitialStations.{members_more}
use Rattle.world.proofs.initial.new_federates.Goals as goal

pub loop-number-preserved : goal.loop-number-preserved
loop-number-preserved c =
    members_more c.args.plan.now c.args.programs.now c.args.inputs.now c.loop-number.stations.items c.push.new.self.items c.in_ok-new_federate.field-0 c.loop-number.number
    c.in_ok-push.ensures.items c.in_ok-new_federate.ensures c.loop-number.invariant
