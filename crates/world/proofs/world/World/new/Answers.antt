use Rattle.std.proofs.Common.{sym, subst, ◌∙◌}
use Rattle.world_stations.specs.Invariant.{HaveOnePeer}
use Rattle.world.proofs.InitialStations.{one_peer, made_first}
use Rattle.world.proofs.world.World.new.Goals as goal

pub new-requires-clause-one_peer : goal.new-requires-clause-one_peer
new-requires-clause-one_peer c = subst HaveOnePeer (sym c.in_ok-federates.ensures) (one_peer c.args.plan.now c.args.programs.now c.args.inputs.now _)

pub invariant_of-result : goal.invariant_of-result
invariant_of-result c = made_first c.invariant.ensures c.requires.programs c.requires.inputs c.in_ok-coordinator.ensures c.in_ok-federates.ensures (c.in_ok-stations.ensures.ok ∙ c.in_ok-made.ensures)
