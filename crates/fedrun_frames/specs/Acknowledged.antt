-- What an acknowledgement tells of its sender.
use Rattle.std.specs.Prelude.{◌≡◌, Some}
use Rattle.link.specs.Image.{Image}
use Rattle.world_stations.specs.declared.dir.Dir.{Dir}
use Rattle.world_stations.specs.Taken.{receiver}
use Rattle.world_stations.specs.World.{World, frames_in}
use Rattle.fedrun_frames.specs.Brought.{back, acknowledged_last}

-- the number that each receiver acknowledged last, in its incarnation, is that of the last signal that it took
abbrev pub AcknowledgesTaken : {OfCoordinator OfFederate : Type 0} → World OfCoordinator OfFederate → Type 0
AcknowledgesTaken w =
    (dir : Dir) (e : Image) → receiver w dir ≡ Some e
    → acknowledged_last e.incarnation 0 (frames_in w (back dir)) ≡ e.taken
