use Rattle.std.proofs.Common.{◌++◌, length}
use Rattle.files_logs.specs.Parts.{IsAdded}
use Rattle.files_logs.proofs.items.add_items.Given as goal

abbrev pub invariant-loop-rest : goal.invariant-loop-rest
invariant-loop-rest l = IsAdded l.said (l.fn.journal ++ l.fn.gathered.items) (l.journal ++ l.gathered.items) l.told l.rest

abbrev pub decreases-loop-rest : goal.decreases-loop-rest
decreases-loop-rest l = length l.rest
