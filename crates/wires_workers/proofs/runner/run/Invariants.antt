use Rattle.std.proofs.Common.{List, []}
use Rattle.node.specs.declared.event.Event.{Event}
use Rattle.wires_workers.specs.HandedIn.{AreHandedIn}
use Rattle.wires_workers.specs.Runner.{AreOfRunner}
use Rattle.wires_workers.proofs.runner.run.Given as goal

-- the share so far is that of a runner's events
abbrev pub invariant-loop : goal.invariant-loop
invariant-loop g l = (events : List Event) × AreOfRunner events × AreHandedIn [] events l.share
