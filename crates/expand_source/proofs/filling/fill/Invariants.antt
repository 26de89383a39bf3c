use Rattle.std.proofs.Common.{take}
use Rattle.expand_source.specs.Expansion.{AreFilled}
use Rattle.expand_source.specs.Filling.{Appends}
use Rattle.expand_source.proofs.filling.fill.Given as goal

abbrev pub invariant-loop-token : goal.invariant-loop-token
invariant-loop-token l = Appends l.initial.text.items l.text.items (AreFilled l.names (take l.token-index l.template))
