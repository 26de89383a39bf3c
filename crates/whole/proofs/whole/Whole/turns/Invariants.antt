use Rattle.std.proofs.Common.{◌≡◌}
use Rattle.whole.specs.Progress.{later_by}
use Rattle.whole.proofs.whole.Whole.turns.Given as goal

abbrev pub invariant-loop-made : goal.invariant-loop-made
invariant-loop-made l = l.self ≡ later_by l.made l.initial.self
