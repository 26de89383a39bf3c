use Rattle.std.proofs.Common.{◌-◌, ◌<◌, ◌^◌, drop}
use Rattle.wires_traffic.proofs.Pieced.{Completes}
use Rattle.wires_traffic.proofs.counter.batches.Given as goal

-- the Batches so far and those to come are all
abbrev pub invariant-loop-place : goal.invariant-loop-place
invariant-loop-place l = record {
  some : 0 < l.size;
  fits : l.batches < 2 ^ 64;
  completes : Completes l.batches l.size (drop (l.place - 1) l.frames) l.frames;
}
