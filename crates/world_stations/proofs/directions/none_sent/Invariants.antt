use Rattle.std.proofs.Common.{◌≡◌, ◌≤◌, [], replicate, vec_len}
use Rattle.std.specs.Vec.{vec_capacity}
use Rattle.world_stations.specs.Room.{frames_of_each}
use Rattle.world_stations.proofs.directions.none_sent.Given as goal

-- this many are made, and there is memory for the others
abbrev pub invariant-loop : goal.invariant-loop
invariant-loop l = record {
  made : frames_of_each l.sent.items ≡ replicate l.counter [];
  len : vec_len l.sent ≡ l.counter;
  places : l.count ≤ vec_capacity l.sent;
}
