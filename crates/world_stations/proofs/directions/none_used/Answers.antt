use Rattle.world_stations.proofs.Stepping.{none_reserved}
use Rattle.world_stations.proofs.directions.none_used.Goals as goal

pub returns-clause-reserved : goal.returns-clause-reserved
returns-clause-reserved g c = none_reserved c.args.coordinator.now.ends c.in_ok-down.down.items c.args.count c.in_ok-most.most c.in_ok-down.ensures c.in_ok-most.ensures
