use Rattle.std.proofs.Common.{take}
use Rattle.expand_source.specs.Expansion.{IsExpansion}
use Rattle.expand_source.proofs.copying.expanded.Given as goal

abbrev pub invariant-loop-part : goal.invariant-loop-part
invariant-loop-part l = IsExpansion (take l.part-index l.parts) l.text.items
