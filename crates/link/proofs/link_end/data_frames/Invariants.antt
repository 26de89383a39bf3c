use Rattle.std.proofs.Common.{◌≡◌, ◌+◌, length, map, vec_len}
use Rattle.std.specs.Vec.{vec_capacity}
use Rattle.signal.specs.Batch.{numbered}
use Rattle.link.proofs.link_end.data_frames.Given as goal

-- the frames of the signals so far, and place for those of all
abbrev pub invariant-loop-signal : goal.invariant-loop-signal
invariant-loop-signal l = record {
  counted : l.number ≡ l.before + length l.yielded;
  frames : l.frames.items ≡ numbered l.incarnation (l.before + 1) (map (λ s. s.now) l.yielded);
  filled : vec_len l.frames ≡ length l.yielded;
  places : vec_capacity l.frames ≡ length l.kept.items;
}
