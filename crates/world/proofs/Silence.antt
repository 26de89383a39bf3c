-- A federate that isn't there has nothing to announce and nothing to run.
use Rattle.std.proofs.Common.{◌≡◌, ℕ, Bool, true, false, length, slice_get, None, Some, nat_lt, if◌then◌else◌, refl}
use Rattle.node.specs.declared.event.Event.{Event}
use Rattle.node.specs.declared.event.Event.TheVariants as event
use Rattle.node.specs.declared.node_id.NodeId.TheVariants.{Federate}
use Rattle.node_cores.specs.FederateCore.{federate_core}
use Rattle.node_cores.specs.CoordinatorCore.{coordinator_core}
use Rattle.world_stations.specs.declared.outcome.Outcome.TheVariants as outcome
use Rattle.world_stations.specs.World.{happens}
use Rattle.world_stations.specs.Federation.{Federation}
use Rattle.world.specs.Quiet.{IsSilent}

absent : (w : Federation) (j : ℕ) (e : Event) (b : Bool) → slice_get w.federates j ≡ None →
    (happens coordinator_core federate_core w (if b then Some (record { node = Federate j; event = e }) else None)).outcome ≡ outcome.Nothing
absent w j e true none = rw (none) refl
absent w j e false none = refl

pub silent_where_none : (w : Federation) (j : ℕ) → slice_get w.federates j ≡ None → IsSilent w j
silent_where_none w j none = record {
  announced = absent w j event.Announce (nat_lt j (length w.federates)) none;
  advanced = absent w j event.Advance (nat_lt j (length w.federates)) none;
}
