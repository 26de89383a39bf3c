use Rattle.world_stations.proofs.Stepping.{world_with}
use Rattle.world_stations.proofs.stations.Stations.put.Goals as goal

pub invariant_of-self-2 : goal.invariant_of-self-2
invariant_of-self-2 g c = (
  world_with g.H.Node.HUB g.M.Node.HUB c.self.inside.federates.items c.replace.new.federates.items c.args.federate c.args.station c.self.invariant.0 c.requires.one_peer c.replace.ensures,
  c.self.invariant.1,
)
