use Rattle.std.proofs.Common.{[], ◌∷◌}
use Rattle.world_stations.specs.declared.dir.Dir.TheVariants.{Up}
use Rattle.world_progress.specs.Rounds.{for_each, brings}
use Rattle.fedrun_replay.proofs.Doing.{Does}
use Rattle.fedrun_replay.proofs.player.Player.deliver_from_each.Given as goal

abbrev pub invariant-loop-sender : goal.invariant-loop-sender
invariant-loop-sender g l =
    Does l.line (for_each (λ sender. brings (Up sender) ∷ []) l.sender) l.initial.self l.self (g.W.Write.contents l.initial.out) (g.W.Write.contents l.out)
