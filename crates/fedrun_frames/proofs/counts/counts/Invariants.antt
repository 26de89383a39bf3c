use Rattle.std.proofs.Common.{◌≡◌}
use Rattle.world.specs.World.{stations_of}
use Rattle.fedrun_frames.specs.Accounts.{counts_in}
use Rattle.fedrun_frames.proofs.counts.counts.Given as goal

-- those of the links so far
abbrev pub invariant-loop-federate : goal.invariant-loop-federate
invariant-loop-federate l = l.counts.items ≡ counts_in (stations_of l.world) l.federate
