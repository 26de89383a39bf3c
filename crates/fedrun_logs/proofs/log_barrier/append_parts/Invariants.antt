use Rattle.std.proofs.Common.{false, ◌≤◌, ◌-◌, length, take}
use Rattle.fedrun_logs.specs.Files.{GoesOn}
use Rattle.fedrun_logs.proofs.log_barrier.append_parts.Given as goal

-- the events so far are appended
abbrev pub invariant-loop-place : goal.invariant-loop-place
invariant-loop-place g l = record {
  within : l.place ≤ length l.events;
  goes_on : GoesOn g.D.Device.is_known g.D.Device.synced l.initial.file l.file (take l.place l.events) false;
}

abbrev pub decreases-loop-place : goal.decreases-loop-place
decreases-loop-place g l = length l.events - l.place
