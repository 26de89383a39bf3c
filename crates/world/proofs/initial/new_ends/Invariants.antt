use Rattle.std.proofs.Common.{◌≡◌, map}
use Rattle.std.specs.List.{range_with_len}
use Rattle.world_stations.specs.Initial.{new_end}
use Rattle.world.proofs.initial.new_ends.Given as goal

-- the ends of the federates so far
abbrev pub invariant-loop-federate : goal.invariant-loop-federate
invariant-loop-federate l = map (λ e. e.image) l.ends.items ≡ map new_end (range_with_len 0 l.federate)
