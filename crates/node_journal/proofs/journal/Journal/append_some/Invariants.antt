use Rattle.std.proofs.Common.{◌≡◌, ◌-◌, ◌≤◌, ◌++◌, take, drop}
use Rattle.node_journal.proofs.journal.Journal.append_some.Given as goal

-- the events so far are added
abbrev pub invariant-loop-from : goal.invariant-loop-from
invariant-loop-from l = record {
  added : l.self ≡ l.initial.self ++ take (l.from - l.place) (drop l.place l.other);
  begun : l.place ≤ l.from;
  few : l.from - l.place ≤ l.most;
}

abbrev pub decreases-loop-from : goal.decreases-loop-from
decreases-loop-from l = l.end - l.from
