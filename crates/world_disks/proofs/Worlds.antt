-- A world of any nodes is a machine whose steps are events at one node each: frames are only added, behind all others,
-- and a step changes one station.
use Rattle.std.proofs.Common.{◌≡◌, ◌≢◌, ℕ, zero, suc, Bool, true, false, if◌then◌else◌, List, [], ◌∷◌, ◌++◌, length}
use Rattle.std.proofs.Common.{set, slice_get, refl, sym, ◌∙◌, ap, Option, None, Some}
use Rattle.std.specs.Prelude.{get_or, map, nat_lt, IsSome, ◌||◌}
use Rattle.std.specs.List.{list_any}
use Rattle.std.proofs.lemmas.List.{length-set}
use Rattle.network.proofs.Items.{get_set_here, get_set_other}
use Rattle.signal.specs.declared.signal.Signal.{Signal}
use Rattle.signal.specs.declared.frame.Frame.{Frame}
use Rattle.link.specs.Taken.{carried_by}
use Rattle.node.specs.declared.outgoing.Outgoing.{Outgoing}
use Rattle.node.specs.declared.event.Event.{Event}
use Rattle.node.specs.declared.event.Event.TheVariants as event
use Rattle.node.specs.declared.node_id.NodeId.{NodeId}
use Rattle.node.specs.declared.node_id.NodeId.TheVariants.{Coordinator, Federate}
use Rattle.node.specs.Core.{Core}
use Rattle.node.specs.Step.{Station, step_of}
use Rattle.world_stations.specs.declared.dir.Dir.{Dir}
use Rattle.world_stations.specs.declared.dir.Dir.TheVariants.{Up, Down}
use Rattle.world_stations.specs.declared.step.Step.{Step}
use Rattle.world_stations.specs.declared.step.Step.TheVariants.{Deliver, Resend, Reconnect, Announce, Advance, Forget}
use Rattle.world_stations.specs.declared.outcome.Outcome.TheVariants as outcome
use Rattle.world_stations.specs.World as world
use Rattle.world_stations.specs.World.{World, Applied, Occurrence, frames_in, frame_at, delivered, comes, occurrence_of}
use Rattle.world_stations.specs.World.{outcome_of, frames_of, sent_out, unchanged, after_coordinator, after_federate}
use Rattle.world_stations.specs.World.{at_federate, at_node, happens, has_next, forgotten, forgets, does, applied}
use Rattle.world_stations.specs.Taken.{signal_in, brought_by}
use Rattle.world_stations.specs.Kept.{is_forget}
use Rattle.world_disks.specs.Machine.{StepsAreLocal, after_steps, AreEvents}
use Rattle.world_disks.specs.Worlds.{federate_station, station_in, stepped_by, answered_by, world_machine}

-- an item stays where it is, whatever comes behind the list
still_there : {X : Type 0} (xs ys : List X) (k : ℕ) (x : X) → slice_get xs k ≡ Some x → slice_get (xs ++ ys) k ≡ Some x
still_there [] ys k x found = cc
still_there (y ∷ xs) ys zero x found = found
still_there (y ∷ xs) ys (suc k) x found = still_there xs ys k x found

-- so it does in each list of lists, whatever comes behind one of them
still_in : {X : Type 0} (lists : List (List X)) (at place : ℕ) (more : List X) (k : ℕ) (x : X) →
    slice_get (get_or lists place []) k ≡ Some x →
    slice_get (get_or (set lists at (get_or lists at [] ++ more)) place []) k ≡ Some x
still_in [] at place more k x found = found
still_in (xs ∷ lists) zero zero more k x found = still_there xs more k x found
still_in (xs ∷ lists) zero (suc place) more k x found = found
still_in (xs ∷ lists) (suc at) zero more k x found = found
still_in (xs ∷ lists) (suc at) (suc place) more k x found = still_in lists at place more k x found

still_sent : (lists : List (List Frame)) (outs : List Outgoing) (place k : ℕ) (frame : Frame) →
    slice_get (get_or lists place []) k ≡ Some frame →
    slice_get (get_or (sent_out lists outs) place []) k ≡ Some frame
still_sent lists [] place k frame found = found
still_sent lists (out ∷ rest) place k frame found =
    still_sent (set lists out.peer (get_or lists out.peer [] ++ out.frame ∷ [])) rest place k frame
    (still_in lists out.peer place (out.frame ∷ []) k frame found)

-- as many federates, and every frame where it was
record Grows {OfCoordinator OfFederate : Type 0} (before after : World OfCoordinator OfFederate) : Type 0 where
  federates : length after.federates ≡ length before.federates
  frames : (dir : Dir) (k : ℕ) (frame : Frame) → slice_get (frames_in before dir) k ≡ Some frame →
      slice_get (frames_in after dir) k ≡ Some frame

grows_by : {OfCoordinator OfFederate : Type 0} (before after : World OfCoordinator OfFederate) →
    length after.federates ≡ length before.federates →
    ((j k : ℕ) (frame : Frame) → slice_get (get_or before.up j []) k ≡ Some frame →
    slice_get (get_or after.up j []) k ≡ Some frame) →
    ((j k : ℕ) (frame : Frame) → slice_get (get_or before.down j []) k ≡ Some frame →
    slice_get (get_or after.down j []) k ≡ Some frame) →
    Grows before after
grows_by before after size ups downs = record { federates = size; frames = by_direction }
  where
    by_direction : (dir : Dir) (k : ℕ) (frame : Frame) → slice_get (frames_in before dir) k ≡ Some frame →
        slice_get (frames_in after dir) k ≡ Some frame
    by_direction (Up j) k frame found = ups j k frame found
    by_direction (Down j) k frame found = downs j k frame found

-- it stays that event: frames stay where they are
still_delivered : (dir : Dir) (before after : List Frame) (k : ℕ) (o : Occurrence) →
    ((frame : Frame) (place : ℕ) → slice_get before place ≡ Some frame → slice_get after place ≡ Some frame) →
    delivered dir (frame_at before k) ≡ Some o → delivered dir (frame_at after k) ≡ Some o
still_delivered dir before after zero o stay is = cc
still_delivered dir before after (suc k) o stay is = by_frame (slice_get before k) refl is
  where
    by_frame : (found : Option Frame) → slice_get before k ≡ found → delivered dir found ≡ Some o →
        delivered dir (slice_get after k) ≡ Some o
    by_frame None there is = cc
    by_frame (Some frame) there is = ap (delivered dir) (stay frame k there) ∙ is

still_occurs : {OfCoordinator OfFederate : Type 0} (before after : World OfCoordinator OfFederate) (step : Step)
    (o : Occurrence) → Grows before after → occurrence_of before step ≡ Some o → occurrence_of after step ≡ Some o
still_occurs before after step o grows is = by_step step is
  where
    by_count : (j : ℕ) (made : Occurrence) → (if nat_lt j (length before.federates) then Some made else None) ≡ Some o →
        (if nat_lt j (length after.federates) then Some made else None) ≡ Some o
    by_count j made is = ap (λ (n : ℕ). if nat_lt j n then Some made else None) grows.federates ∙ is

    by_step : (step : Step) → occurrence_of before step ≡ Some o → occurrence_of after step ≡ Some o
    by_step (Deliver dir k) is =
        still_delivered dir (frames_in before dir) (frames_in after dir) k o
        (λ frame place there. grows.frames dir place frame there) is
    by_step (Resend dir) is = by_count (world.federate_of dir) (world.sends_again dir) is
    by_step (Reconnect dir) is = by_count (world.federate_of dir) (world.greets dir) is
    by_step (Announce j) is = by_count j _ is
    by_step (Advance j) is = by_count j _ is
    by_step (Forget j) is = cc

module _ {OfCoordinator OfFederate CoordinatorRow Row : Type 0} (coordinator : Core OfCoordinator CoordinatorRow)
    (federate : Core OfFederate Row) where
  at_node_grows : (w : World OfCoordinator OfFederate) (node : NodeId) (e : Event) →
      Grows w (at_node coordinator federate w node e).world
  at_node_grows w Coordinator e =
      let made = step_of coordinator true w.coordinator e in
      grows_by w (after_coordinator w made).world refl (λ j k frame found. found)
      (λ j k frame found. still_sent w.down (frames_of made.answer) j k frame found)
  at_node_grows w (Federate j) e = by_station (slice_get w.federates j)
    where
      by_station : (found : Option (Station OfFederate)) → Grows w (at_federate federate w j e found).world
      by_station None = record { federates = refl; frames = λ dir k frame there. there }
      by_station (Some s) =
          let made = step_of federate false s e in
          grows_by w (after_federate w j made).world (length-set w.federates j made.station)
          (λ i k frame found. still_in w.up j i (map (λ out. out.frame) (frames_of made.answer)) k frame found)
          (λ i k frame found. found)

  happens_grows : (w : World OfCoordinator OfFederate) (o : Option Occurrence) →
      Grows w (happens coordinator federate w o).world
  happens_grows w None = record { federates = refl; frames = λ dir k frame there. there }
  happens_grows w (Some o) = at_node_grows w o.node o.event

  forgets_grows : (w : World OfCoordinator OfFederate) (j : ℕ) (found : Option (Station OfFederate)) →
      Grows w (forgets federate w j found).world
  forgets_grows w j None = record { federates = refl; frames = λ dir k frame there. there }
  forgets_grows w j (Some s) = by_next (has_next s.ends)
    where
      by_next : (b : Bool) → Grows w (if b
          then record {
            world = record w { federates = set w.federates j (forgotten federate s) };
            outcome = outcome.Done;
          }
          else unchanged w).world
      by_next true =
          grows_by w (record w { federates = set w.federates j (forgotten federate s) })
          (length-set w.federates j (forgotten federate s)) (λ i k frame found. found) (λ i k frame found. found)
      by_next false = record { federates = refl; frames = λ dir k frame there. there }

  does_grows : (w : World OfCoordinator OfFederate) (step : Step) → Grows w (does coordinator federate w step).world
  does_grows w (Deliver dir k) = happens_grows w (occurrence_of w (Deliver dir k))
  does_grows w (Resend dir) = happens_grows w (occurrence_of w (Resend dir))
  does_grows w (Reconnect dir) = happens_grows w (occurrence_of w (Reconnect dir))
  does_grows w (Announce j) = happens_grows w (occurrence_of w (Announce j))
  does_grows w (Advance j) = happens_grows w (occurrence_of w (Advance j))
  does_grows w (Forget j) = forgets_grows w j (slice_get w.federates j)

  -- that the step is listed changes no frame and no station
  listed_grows : (w made : World OfCoordinator OfFederate) (steps : List Step) → Grows w made →
      Grows w (record made { steps = steps })
  listed_grows w made steps grows = grows_by w (record made { steps = steps }) grows.federates
      (λ j k frame found. grows.frames (Up j) k frame found) (λ j k frame found. grows.frames (Down j) k frame found)

  applied_grows : (w : World OfCoordinator OfFederate) (step : Step) →
      Grows w (applied coordinator federate w step).world
  applied_grows w step =
      let made = (does coordinator federate w step).world in
      listed_grows w made (made.steps ++ step ∷ []) (does_grows w step)

  -- a step that is an event is that event
  pub does_event : (w : World OfCoordinator OfFederate) (step : Step) (o : Occurrence) →
      occurrence_of w step ≡ Some o → does coordinator federate w step ≡ at_node coordinator federate w o.node o.event
  does_event w (Deliver dir k) o is = ap (happens coordinator federate w) is
  does_event w (Resend dir) o is = ap (happens coordinator federate w) is
  does_event w (Reconnect dir) o is = ap (happens coordinator federate w) is
  does_event w (Announce j) o is = ap (happens coordinator federate w) is
  does_event w (Advance j) o is = ap (happens coordinator federate w) is
  does_event w (Forget j) o is = cc

  listed_station : (made : World OfCoordinator OfFederate) (steps : List Step) (node : NodeId) →
      station_in (record made { steps = steps }) node ≡ station_in made node
  listed_station made steps Coordinator = refl
  listed_station made steps (Federate j) = refl

  -- its node's station after an event
  own_at : (w : World OfCoordinator OfFederate) (node : NodeId) (e : Event) →
      station_in (at_node coordinator federate w node e).world node
      ≡ stepped_by coordinator federate (station_in w node) e
  own_at w Coordinator e = refl
  own_at w (Federate j) e = by_station (slice_get w.federates j) refl
    where
      by_station : (found : Option (Station OfFederate)) → slice_get w.federates j ≡ found →
          federate_station (slice_get (at_federate federate w j e found).world.federates j)
          ≡ stepped_by coordinator federate (federate_station found) e
      by_station None there = ap federate_station there
      by_station (Some s) there =
          ap federate_station (get_set_here w.federates j s (step_of federate false s e).station there)

  -- all others
  others_at : (w : World OfCoordinator OfFederate) (node other : NodeId) (e : Event) → other ≢ node →
      station_in (at_node coordinator federate w node e).world other ≡ station_in w other
  others_at w Coordinator Coordinator e apart = absurd (apart refl)
  others_at w Coordinator (Federate i) e apart = refl
  others_at w (Federate j) other e apart = by_station (slice_get w.federates j) other apart
    where
      by_station : (found : Option (Station OfFederate)) (other : NodeId) → other ≢ Federate j →
          station_in (at_federate federate w j e found).world other ≡ station_in w other
      by_station None other apart = refl
      by_station (Some s) Coordinator apart = refl
      by_station (Some s) (Federate i) apart =
          ap federate_station
          (get_set_other w.federates j i (step_of federate false s e).station (λ same. apart (ap Federate same)))

  -- how it ends is by what the station answers
  pub outcome_at : (w : World OfCoordinator OfFederate) (node : NodeId) (e : Event) →
      (at_node coordinator federate w node e).outcome
      ≡ outcome_of (answered_by coordinator federate (station_in w node) e)
  outcome_at w Coordinator e = refl
  outcome_at w (Federate j) e = by_station (slice_get w.federates j)
    where
      by_station : (found : Option (Station OfFederate)) →
          (at_federate federate w j e found).outcome
          ≡ outcome_of (answered_by coordinator federate (federate_station found) e)
      by_station None = refl
      by_station (Some s) = refl

  -- the station of a node after a step that is an event
  stationed : (w : World OfCoordinator OfFederate) (step : Step) (o : Occurrence) (node : NodeId) →
      occurrence_of w step ≡ Some o →
      station_in (applied coordinator federate w step).world node
      ≡ station_in (at_node coordinator federate w o.node o.event).world node
  stationed w step o node is =
      let made = (does coordinator federate w step).world in
      listed_station made (made.steps ++ step ∷ []) node
      ∙ ap (λ (a : Applied OfCoordinator OfFederate). station_in a.world node) (does_event w step o is)

  -- each step is an event at one node
  pub steps_are_local : StepsAreLocal (world_machine coordinator federate)
  steps_are_local = record {
    stays = λ w step other o is.
        still_occurs w (applied coordinator federate w other).world step o (applied_grows w other) is;
    own = λ w step o is. stationed w step o o.node is ∙ own_at w o.node o.event;
    others = λ w step o node is apart. stationed w step o node is ∙ others_at w o.node node o.event apart;
  }

  -- steps of the machine are those of the world
  pub machine_steps : (w : World OfCoordinator OfFederate) (steps : List Step) →
      after_steps (world_machine coordinator federate) w steps ≡ world.after_steps coordinator federate w steps
  machine_steps w [] = refl
  machine_steps w (step ∷ steps) = machine_steps (applied coordinator federate w step).world steps

  -- nobody forgets by an event
  pub none_forgets : (w : World OfCoordinator OfFederate) (steps : List Step) →
      AreEvents (world_machine coordinator federate) w steps → list_any is_forget steps ≡ false
  none_forgets w [] events = refl
  none_forgets w (step ∷ steps) events =
      let after = (applied coordinator federate w step).world in
      ap (λ (b : Bool). b || list_any is_forget steps) (by_step step events.0) ∙ none_forgets after steps events.1
    where
      by_step : (step : Step) → IsSome (occurrence_of w step) → is_forget step ≡ false
      by_step (Deliver dir k) is = refl
      by_step (Resend dir) is = refl
      by_step (Reconnect dir) is = refl
      by_step (Announce j) is = refl
      by_step (Advance j) is = refl
      by_step (Forget j) is = cc

-- the signal of an event
abbrev signal_of : Event → List Signal
signal_of (event.Frame peer frame) = carried_by frame
signal_of (event.Resend peer) = []
signal_of (event.Hello peer) = []
signal_of event.Announce = []
signal_of event.Advance = []

abbrev signal_at : Option Occurrence → List Signal
signal_at None = []
signal_at (Some o) = signal_of o.event

-- a step that is the same event in two worlds delivers the same signal in both
pub brings_the_same : {OfCoordinator OfFederate : Type 0} (before after : World OfCoordinator OfFederate) (step : Step)
    (o : Occurrence) → occurrence_of before step ≡ Some o → occurrence_of after step ≡ Some o →
    brought_by before step ≡ brought_by after step
brings_the_same before after step o is later = by_step step is later
  where
    by_frame : (dir : Dir) (found : Option Frame) → signal_in found ≡ signal_at (delivered dir found)
    by_frame dir None = refl
    by_frame (Up j) (Some frame) = refl
    by_frame (Down j) (Some frame) = refl

    by_step : (step : Step) → occurrence_of before step ≡ Some o → occurrence_of after step ≡ Some o →
        brought_by before step ≡ brought_by after step
    by_step (Deliver dir k) is later =
        by_frame dir (frame_at (frames_in before dir) k) ∙ ap signal_at (is ∙ sym later)
        ∙ sym (by_frame dir (frame_at (frames_in after dir) k))
    by_step (Resend dir) is later = refl
    by_step (Reconnect dir) is later = refl
    by_step (Announce j) is later = refl
    by_step (Advance j) is later = refl
    by_step (Forget j) is later = refl
