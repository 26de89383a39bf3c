use Rattle.std.proofs.Common.{◌≡◌, take}
use Rattle.desk.specs.Replay.{after_all}
use Rattle.desk.specs.Replies.{AreAdded, answers_of}
use Rattle.desk.proofs.desk.step_all.Given as goal

-- this many events' steps are made, and what was said to them is added
abbrev pub invariant-loop-place : goal.invariant-loop-place
invariant-loop-place g l = record {
  station : l.station ≡ after_all g.N.Node.core g.N.Node.HUB l.fn.station (take l.place l.events);
  replies : AreAdded l.fn.replies (answers_of g.N.Node.core g.N.Node.HUB l.fn.station (take l.place l.events)) l.replies;
}
