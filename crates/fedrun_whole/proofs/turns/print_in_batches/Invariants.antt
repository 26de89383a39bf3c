use Rattle.fedrun_whole.proofs.Batches.{Going}
use Rattle.fedrun_whole.proofs.turns.print_in_batches.Given as goal

abbrev pub invariant-loop-left : goal.invariant-loop-left
invariant-loop-left g l =
    Going l.format l.initial.program l.program l.turns l.left (g.O.Write.contents l.initial.out) (g.O.Write.contents l.out)

abbrev pub decreases-loop-left : goal.decreases-loop-left
decreases-loop-left g l = l.left
