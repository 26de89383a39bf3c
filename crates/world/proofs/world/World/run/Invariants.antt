use Rattle.std.proofs.Common.{◌≡◌, take}
use Rattle.world.specs.World.{with_steps}
use Rattle.world.proofs.world.World.run.Given as goal

-- the steps so far are made
abbrev pub invariant-loop-step : goal.invariant-loop-step
invariant-loop-step l = l.self ≡ with_steps l.fn.self (take l.step-index l.steps)
