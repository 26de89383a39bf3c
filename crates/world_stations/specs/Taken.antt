-- What was taken of each direction, read off the steps that were made.
use Rattle.std.specs.Prelude.{ℕ, nat_eq, nat_lt, if◌then◌else◌, List, [], ◌∷◌, ◌++◌, slice_get, Option, None, Some}
use Rattle.signal.specs.declared.signal.Signal.{Signal}
use Rattle.signal.specs.declared.frame.Frame.{Frame}
use Rattle.network_laws.specs.Settled.{BeginsWith}
use Rattle.link.specs.Image.{Image}
use Rattle.link.specs.Taken.{carried_by}
use Rattle.link_laws.specs.Direction.{offered_in}
use Rattle.node.specs.Core.{Core}
use Rattle.node.specs.Step.{Station}
use Rattle.world_stations.specs.declared.dir.Dir.{Dir}
use Rattle.world_stations.specs.declared.dir.Dir.TheVariants.{Up, Down}
use Rattle.world_stations.specs.declared.step.Step.{Step}
use Rattle.world_stations.specs.declared.step.Step.TheVariants.{Deliver, Resend, Reconnect, Announce, Advance, Forget}
use Rattle.world_stations.specs.World.{World, frames_in, frame_at, applied, after_steps}

-- the end of a federate's station
abbrev pub own_end : {OfFederate : Type 0} → Option (Station OfFederate) → Option Image
own_end None = None
own_end (Some s) = slice_get s.ends 0

-- the end that a direction's frames come to
abbrev pub receiver : {OfCoordinator OfFederate : Type 0} → World OfCoordinator OfFederate → Dir → Option Image
receiver w (Up j) = slice_get w.coordinator.ends j
receiver w (Down j) = own_end (slice_get w.federates j)

-- the end that sends them
abbrev pub sender : {OfCoordinator OfFederate : Type 0} → World OfCoordinator OfFederate → Dir → Option Image
sender w (Up j) = receiver w (Down j)
sender w (Down j) = receiver w (Up j)

-- the number of the last signal that an end took in this incarnation
abbrev pub number_taken : (incarnation : ℕ) → Option Image → ℕ
number_taken incarnation None = 0
number_taken incarnation (Some e) = if nat_eq e.incarnation incarnation then e.taken else 0

-- the number up to which the signals of an end of this incarnation are acknowledged
abbrev pub number_acknowledged : (incarnation : ℕ) → Option Image → ℕ
number_acknowledged incarnation None = 0
number_acknowledged incarnation (Some e) = if nat_eq e.incarnation incarnation then e.acknowledged else 0

-- the signal of a frame, if there is one
abbrev pub signal_in : Option Frame → List Signal
signal_in None = []
signal_in (Some frame) = carried_by frame

-- the signal that a step delivers
abbrev pub brought_by : {OfCoordinator OfFederate : Type 0} → World OfCoordinator OfFederate → Step → List Signal
brought_by w (Deliver dir k) = signal_in (frame_at (frames_in w dir) k)
brought_by w (Resend dir) = []
brought_by w (Reconnect dir) = []
brought_by w (Announce j) = []
brought_by w (Advance j) = []
brought_by w (Forget j) = []

-- what is taken of a direction, in an incarnation, by a step: where the number taken rises, the signal that it delivers
abbrev pub newly_taken : {OfCoordinator OfFederate : Type 0} → World OfCoordinator OfFederate
    → World OfCoordinator OfFederate → Dir → (incarnation : ℕ) → Step → List Signal
newly_taken before after dir incarnation step =
    if nat_lt (number_taken incarnation (receiver before dir)) (number_taken incarnation (receiver after dir))
    then brought_by before step else []

-- what is taken of a direction, in an incarnation, by these steps, in order
abbrev pub taken_in : {OfCoordinator OfFederate CoordinatorRow Row : Type 0} → Core OfCoordinator CoordinatorRow
    → Core OfFederate Row → World OfCoordinator OfFederate → Dir → (incarnation : ℕ) → List Step → List Signal
taken_in of_coordinator of_federate w dir incarnation [] = []
taken_in of_coordinator of_federate w dir incarnation (step ∷ steps) =
    newly_taken w (applied of_coordinator of_federate w step).world dir incarnation step ++
    taken_in of_coordinator of_federate (applied of_coordinator of_federate w step).world dir incarnation steps

-- of each direction, in each incarnation, what these steps make taken is a prefix of what was offered
abbrev pub TakesInOrder : {OfCoordinator OfFederate CoordinatorRow Row : Type 0} → Core OfCoordinator CoordinatorRow
    → Core OfFederate Row → World OfCoordinator OfFederate → List Step → Type 0
TakesInOrder of_coordinator of_federate w steps =
    (dir : Dir) (incarnation : ℕ) → BeginsWith
    (offered_in incarnation (frames_in (after_steps of_coordinator of_federate w steps) dir))
    (taken_in of_coordinator of_federate w dir incarnation steps)
