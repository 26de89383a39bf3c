use Rattle.std.proofs.Common.{◌-◌, ◌≤◌}
use Rattle.wires_workers.specs.HandedIn.{AreHandedIn, events_of_turns}
use Rattle.wires_workers.proofs.session.Session.make_turns.Given as goal

-- the turns so far are handed in, at least one, and no more than may be made
abbrev pub invariant-loop-made : goal.invariant-loop-made
invariant-loop-made g l = AreHandedIn l.fn.share (events_of_turns l.made) l.share × (1 ≤ l.made) × (1 ≤ l.most → l.made ≤ l.most)

-- this many turns may still be made
abbrev pub decreases-loop-made : goal.decreases-loop-made
decreases-loop-made g l = l.most - l.made
