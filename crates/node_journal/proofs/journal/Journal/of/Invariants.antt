use Rattle.std.proofs.Common.{◌≡◌, take}
use Rattle.node_journal.proofs.journal.Journal.of.Given as goal

-- the events so far are pushed
abbrev pub invariant-loop-event : goal.invariant-loop-event
invariant-loop-event l = l.journal ≡ take l.event-index l.events
