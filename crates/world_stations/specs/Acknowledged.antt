-- Links whose signals are all acknowledged.
use Rattle.std.specs.Prelude.{◌≡◌, ℕ, [], IfSome}
use Rattle.world_stations.specs.declared.dir.Dir.{Dir}
use Rattle.world_stations.specs.declared.dir.Dir.TheVariants.{Up, Down}
use Rattle.world_stations.specs.Taken.{sender}
use Rattle.world_stations.specs.World.{World}

-- the sender of a direction keeps no signal: all that it offered is acknowledged
abbrev pub KeepsNone : {OfCoordinator OfFederate : Type 0} → World OfCoordinator OfFederate → Dir → Type 0
KeepsNone w dir = IfSome (sender w dir) (λ e. e.kept ≡ [])

-- so do both sides of the link of federate j
pub record IsAcknowledged {OfCoordinator OfFederate : Type 0} (w : World OfCoordinator OfFederate)
    (j : ℕ) : Type 0 where
  pub up : KeepsNone w (Up j)
  pub down : KeepsNone w (Down j)
