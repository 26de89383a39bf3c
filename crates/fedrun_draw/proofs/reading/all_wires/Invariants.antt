use Rattle.std.proofs.Common.{◌≡◌, vec_len}
use Rattle.fedrun_draw.proofs.reading.all_wires.Given as goal

abbrev pub invariant-loop-connection : goal.invariant-loop-connection
invariant-loop-connection l = vec_len l.wires ≡ l.connection-index
