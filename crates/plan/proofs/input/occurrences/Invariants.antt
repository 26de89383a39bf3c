use Rattle.std.proofs.Common.{◌≡◌, map, take}
use Rattle.std.specs.Prelude.{Some}
use Rattle.plan.specs.Occurrences.{occurrence_of}
use Rattle.plan.proofs.input.occurrences.Given as goal

abbrev pub invariant-loop-input : goal.invariant-loop-input
invariant-loop-input l = map (λ o. Some o) l.occurrences.items ≡ map (occurrence_of l.federates) (take l.input-index l.inputs)
