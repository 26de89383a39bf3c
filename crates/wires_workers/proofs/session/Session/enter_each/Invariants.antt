use Rattle.std.proofs.Common.{take}
use Rattle.wires_workers.specs.HandedIn.{AreHandedIn}
use Rattle.wires_workers.proofs.session.Session.enter_each.Given as goal

-- the events so far are handed in
abbrev pub invariant-loop-event : goal.invariant-loop-event
invariant-loop-event g l = AreHandedIn l.fn.share (take l.event-index l.events) l.share
