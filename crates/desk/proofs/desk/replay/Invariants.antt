use Rattle.std.proofs.Common.{◌≡◌, take}
use Rattle.desk.specs.Replay.{after_all}
use Rattle.desk.proofs.desk.replay.Given as goal

-- this many events' steps are made
abbrev pub invariant-loop-place : goal.invariant-loop-place
invariant-loop-place g l = l.station ≡ after_all g.N.Node.core g.N.Node.HUB l.fn.station (take l.place l.journal)
