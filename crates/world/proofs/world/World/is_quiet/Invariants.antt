use Rattle.std.proofs.Common.{ℕ, ◌<◌}
use Rattle.world.specs.World.{stations_of}
use Rattle.world.specs.Quiet.{IsQuiet}
use Rattle.world.proofs.world.World.is_quiet.Given as goal

-- nothing is left to be done at the federates so far
abbrev pub invariant-loop-federate : goal.invariant-loop-federate
invariant-loop-federate l = (j : ℕ) → j < l.federate → IsQuiet (stations_of l.self) j
