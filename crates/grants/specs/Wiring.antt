-- The wiring of a federation, as data.
use Rattle.std.specs.Prelude.{ℕ, List}
use Rattle.tag.specs.LogicalTime.{LogicalTime}
use Rattle.network.specs.Connection.{Connection}
use Rattle.network.specs.Network.{Network}
use Rattle.network.specs.Wiring.{IsWired, wiring as wired_network}
use Rattle.network.specs.Tables.{Table, IsLeastTable}
use Rattle.plan_paths.specs.Least.{least_within}
use Rattle.plan.specs.declared.draft.Draft.{Draft}
use Rattle.plan.specs.Federation.{federate_count, connections_of, stop_of}

-- how many federates there are, the connections between them, and the last tag at which anything runs
pub record Wiring : Type 0 where
  pub federates : ℕ
  pub connections : List Connection
  pub stop : LogicalTime

-- that of a federation
abbrev pub federation_wiring : Draft → Wiring
federation_wiring d = record { federates = federate_count d; connections = connections_of d; stop = stop_of d }

-- the network of this wiring alone
abbrev pub network_by : Wiring → Network
network_by w = wired_network w.federates w.connections w.stop

-- the least delays between its federates
abbrev pub least_by : Wiring → Table
least_by w i j = least_within w.connections w.federates i j

-- connections are between federates that are there, stop isn't FOREVER, and the least delays are least over all paths
pub record IsWiring (w : Wiring) : Type 0 where
  pub wired : IsWired (network_by w)
  pub least : IsLeastTable (network_by w) (least_by w)
