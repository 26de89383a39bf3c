use Rattle.std.proofs.Common.{◌≡◌}
use Rattle.node_journal.specs.Turns.{turn_events}
use Rattle.desk.specs.Replay.{after_all}
use Rattle.desk.specs.Replies.{AreAdded, answers_of}
use Rattle.desk.proofs.desk.step_turns.Given as goal

-- this many events' steps are made, and what was said to them is added
abbrev pub invariant-loop-number : goal.invariant-loop-number
invariant-loop-number g l = record {
  station : l.station ≡ after_all g.N.Node.core g.N.Node.HUB l.fn.station (turn_events l.number);
  replies : AreAdded l.fn.replies (answers_of g.N.Node.core g.N.Node.HUB l.fn.station (turn_events l.number)) l.replies;
}
