use Rattle.std.proofs.Common.{◌≡◌, map, take}
use Rattle.toml.specs.Data.{table}
use Rattle.toml.specs.View.{view}
use Rattle.expand_federation.proofs.Arrays.{members_in}
use Rattle.expand_federation.proofs.tables.tables_at.Given as goal

abbrev pub invariant-loop-value : goal.invariant-loop-value
invariant-loop-value l = map view (take l.value-index l.value-items) ≡ map table (map members_in l.tables.items)
