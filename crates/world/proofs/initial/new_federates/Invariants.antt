use Rattle.std.proofs.Common.{◌≡◌}
use Rattle.world_stations.specs.Initial.{new_federates}
use Rattle.world.proofs.initial.new_federates.Given as goal

-- the stations of the federates so far
abbrev pub invariant-loop-number : goal.invariant-loop-number
invariant-loop-number l = l.stations.items ≡ new_federates l.plan l.programs l.inputs l.number
