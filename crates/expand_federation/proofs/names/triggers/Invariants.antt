use Rattle.std.proofs.Common.{map, take, codes}
use Rattle.toml.specs.View.{view}
use Rattle.loadfed_tables.specs.Tables.{SaysTexts}
use Rattle.loadfed.proofs.TableReadings.{AreRead}
use Rattle.expand_federation.proofs.names.triggers.Given as goal

abbrev pub invariant-loop-value : goal.invariant-loop-value
invariant-loop-value l = AreRead (SaysTexts (codes "triggers")) (map view (take l.value-index l.value-items)) l.triggers.items
