use Rattle.world_progress.specs.Rounds.{for_each, turn_tasks}
use Rattle.fedrun_replay.proofs.Doing.{Does}
use Rattle.fedrun_replay.proofs.player.Player.turn_each.Given as goal

abbrev pub invariant-loop-federate : goal.invariant-loop-federate
invariant-loop-federate g l =
    Does l.line (for_each (turn_tasks) l.federate) l.initial.self l.self (g.W.Write.contents l.initial.out) (g.W.Write.contents l.out)
