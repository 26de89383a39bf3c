use Rattle.std.proofs.Common.{◌≡◌, IfOk, sym, subst}
use Rattle.world_stations.specs.World.{Applied, listed}
use Rattle.world_stations.proofs.stations.Stations.at_federate.Goals as goal

pub returns-then-is_idle-clause-done : goal.returns-then-is_idle-clause-done
returns-then-is_idle-clause-done g c =
    subst (λ (x : Applied _ _). IfOk c.pass.result (λ outcome. record { world = c.pass.new.self; outcome = outcome } ≡ listed c.args.step x))
    (sym (c.is_idle.ensures c.if-is_idle.true)) c.pass.ensures.done
