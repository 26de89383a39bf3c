use Rattle.std.proofs.Common.{sym}
use Rattle.world_stations.proofs.Idle.{idle_federate}
use Rattle.world_stations.proofs.stations.Stations.is_idle.Goals as goal

pub returns-in-Some : goal.returns-in-Some
returns-in-Some g c = λ idle.
    idle_federate g.H.Node.core g.M.Node.core c.args.self.now c.args.federate c.in-Some.station.now c.args.event.now
    (sym c.in-Some.ensures) (c.is_idle.ensures.0 idle)

pub returns-in-None : goal.returns-in-None
returns-in-None g c = λ no. cc
