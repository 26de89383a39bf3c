use Rattle.std.proofs.Common.{◌≡◌, ◌-◌, ◌≤◌, ◌++◌, length, take}
use Rattle.node_journal.specs.Numbered.{events_of}
use Rattle.fedrun_logs.proofs.replaying.hand_in_all.Given as goal

-- the events so far are handed in
abbrev pub invariant-loop-place : goal.invariant-loop-place
invariant-loop-place g l = record {
  events : events_of l.share ≡ events_of l.initial.share ++ take l.place l.journal;
  within : l.place ≤ length l.journal;
}

abbrev pub decreases-loop-place : goal.decreases-loop-place
decreases-loop-place g l = length l.journal - l.place
