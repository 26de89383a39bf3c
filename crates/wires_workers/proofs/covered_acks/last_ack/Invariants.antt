use Rattle.std.proofs.Common.{◌≡◌, drop, None}
use Rattle.wires_workers.specs.LeavingOut.{last_ack}
use Rattle.wires_workers.proofs.covered_acks.last_ack.Given as goal

-- from a place on there is no Ack
abbrev pub invariant-loop-place : goal.invariant-loop-place
invariant-loop-place l = last_ack (drop l.place l.frames) ≡ None
