use Rattle.std.proofs.Common.{take}
use Rattle.fedrun_replay.proofs.Obeying.{Obeys}
use Rattle.fedrun_replay.proofs.player.Player.play.Given as goal

abbrev pub invariant-loop-line : goal.invariant-loop-line
invariant-loop-line g l =
    Obeys (take l.line-index l.lines) l.initial.self l.self (g.W.Write.contents l.initial.out) (g.W.Write.contents l.out)
