use Rattle.std.proofs.Common.{◌≡◌, vec_len}
use Rattle.fedrun_draw.proofs.reading.all_figures.Given as goal

abbrev pub invariant-loop-number : goal.invariant-loop-number
invariant-loop-number l = vec_len l.figures ≡ l.number
