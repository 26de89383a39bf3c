use Rattle.std.proofs.Common.{◌≡◌, take}
use Rattle.fedrun_expand.proofs.saving.copied.Given as goal

abbrev pub invariant-loop-one : goal.invariant-loop-one
invariant-loop-one l = l.copy.items ≡ take l.one-index l.given
