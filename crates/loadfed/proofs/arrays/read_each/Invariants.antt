use Rattle.std.proofs.Common.{map, take}
use Rattle.toml.specs.View.{view}
use Rattle.loadfed.proofs.TableReadings.{AreRead}
use Rattle.loadfed.proofs.arrays.read_each.Given as goal

abbrev pub invariant-loop-value : goal.invariant-loop-value
invariant-loop-value g l = AreRead g.T.FromTable.says (map view (take l.value-index l.values)) l.each.items
