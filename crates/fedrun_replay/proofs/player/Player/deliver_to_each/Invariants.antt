use Rattle.std.proofs.Common.{[], ◌∷◌}
use Rattle.world_stations.specs.declared.dir.Dir.TheVariants.{Down}
use Rattle.world_progress.specs.Rounds.{for_each, brings}
use Rattle.fedrun_replay.proofs.Doing.{Does}
use Rattle.fedrun_replay.proofs.player.Player.deliver_to_each.Given as goal

abbrev pub invariant-loop-receiver : goal.invariant-loop-receiver
invariant-loop-receiver g l =
    Does l.line (for_each (λ receiver. brings (Down receiver) ∷ []) l.receiver) l.initial.self l.self (g.W.Write.contents l.initial.out) (g.W.Write.contents l.out)
