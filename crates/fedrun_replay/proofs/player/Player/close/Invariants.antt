use Rattle.fedrun_replay.proofs.Closed.{Closes}
use Rattle.fedrun_replay.proofs.player.Player.close.Given as goal

abbrev pub invariant-loop-made : goal.invariant-loop-made
invariant-loop-made g l = Closes l.line l.most l.initial.self l.self (g.W.Write.contents l.initial.out) (g.W.Write.contents l.out) l._made
