use Rattle.std.proofs.Common.{◌≡◌, IfOk, sym, subst}
use Rattle.world_stations.specs.World.{Applied, listed}
use Rattle.world_stations.proofs.Stepping.{does_known}
use Rattle.world_stations.proofs.stations.Stations.apply_known.Goals as goal

pub returns-clause-done : goal.returns-clause-done
returns-clause-done g c =
    subst (λ (x : Applied _ _). IfOk c.at_node.result (λ outcome. record { world = c.at_node.new.self; outcome = outcome } ≡ listed c.args.step x))
    (sym (does_known g.H.Node.core g.M.Node.core c.args.self.now c.args.step (record { node = c.args.node; event = c.args.event }) c.requires)) c.at_node.ensures.done
