use Rattle.std.proofs.Common.{◌≡◌, map, take}
use Rattle.whole.proofs.Turns.{opened}
use Rattle.whole.proofs.whole.Whole.new.Given as goal

abbrev pub invariant-loop-program : goal.invariant-loop-program
invariant-loop-program l = l.reactors.items ≡ map opened (take l.program-index l.programs)
