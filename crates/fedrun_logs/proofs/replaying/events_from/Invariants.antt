use Rattle.std.proofs.Common.{◌≡◌, ◌-◌, ◌≤◌, take, drop}
use Rattle.fedrun_logs.proofs.replaying.events_from.Given as goal

-- the events so far
abbrev pub invariant-loop-next : goal.invariant-loop-next
invariant-loop-next l = record {
  events : l.events.items ≡ take (l.next - l.place) (drop l.place l.journal);
  begun : l.place ≤ l.next;
}
