use Rattle.std.proofs.Common.{take}
use Rattle.expand_source.specs.Expansion.{AreSet}
use Rattle.expand_source.proofs.copying.set.Given as goal

abbrev pub invariant-loop-setting : goal.invariant-loop-setting
invariant-loop-setting l = AreSet l.names (take l.setting-index l.settings) l.set.items
