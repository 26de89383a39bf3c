use Rattle.world_stations.proofs.Ways.{found_in, there_in}
use Rattle.world_stations.proofs.stations.station_at.Goals as goal

pub returns-clause-station : goal.returns-clause-station
returns-clause-station g c = found_in c.args.federates.now c.args.federate c.get.result c.get.ensures.lookup

pub returns-clause-there : goal.returns-clause-there
returns-clause-there g c = there_in c.args.federates.now c.args.federate c.get.result c.get.ensures.lookup
