use Rattle.std.proofs.Common.{◌≡◌, ◌<◌, ◌≤◌, ◌++◌, [], length, map, set, get_or, take, drop}
use Rattle.world_stations.specs.Room.{frames_of_each, spare_at}
use Rattle.world_stations.proofs.directions.append_all.Given as goal

-- the frames so far are put, and the others fit
abbrev pub invariant-loop-out : goal.invariant-loop-out
invariant-loop-out l = record {
  put : frames_of_each l.sent.items ≡
      set (frames_of_each l.fn.sent.items) l.place (get_or (frames_of_each l.fn.sent.items) l.place [] ++ map (λ out. out.frame) (take l.out-index l.outgoing));
  fits : l.place < length l.sent.items → length (drop l.out-index l.outgoing) ≤ spare_at l.sent.items l.place;
}
