use Rattle.std.proofs.Common.{◌≡◌, take}
use Rattle.world_stations.specs.World.{after_steps}
use Rattle.world_stations.proofs.stations.Stations.run.Given as goal

-- the steps so far are made
abbrev pub invariant-loop-step : goal.invariant-loop-step
invariant-loop-step g l = l.self ≡ after_steps g.H.Node.core g.M.Node.core l.fn.self (take l.step-index l.steps)
