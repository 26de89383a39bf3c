use Rattle.node.proofs.Initial.{initial_stays}
use Rattle.node.proofs.laws.initial_stations_stay.Goals as goal

pub returns : goal.returns
returns g c s event = initial_stays g.N.Node.core g.met.N.Node.goes_on g.N.Node.HUB s event
