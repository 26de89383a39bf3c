-- A world: the coordinator's station, each federate's, all frames ever sent, and the steps made. What each step makes
-- of it. Federate j is peer j of the coordinator; a federate's one peer is 0.
use Rattle.std.specs.Prelude.{ℕ, zero, suc, ◌+◌, ◌^◌, Bool, true, false, ◌&&◌, if◌then◌else◌, nat_lt, List, [], ◌∷◌}
use Rattle.std.specs.Prelude.{◌++◌, length, map, set, get_or, slice_get, Option, None, Some}
use Rattle.std.specs.List.{range_with_len}
use Rattle.signal.specs.declared.frame.Frame.{Frame}
use Rattle.link.specs.Image.{Image, blank}
use Rattle.node.specs.declared.outgoing.Outgoing.{Outgoing}
use Rattle.node.specs.declared.event.Event.{Event}
use Rattle.node.specs.declared.event.Event.TheVariants as event
use Rattle.node.specs.declared.node_id.NodeId.{NodeId}
use Rattle.node.specs.declared.node_id.NodeId.TheVariants.{Coordinator, Federate}
use Rattle.node.specs.Core.{Core}
use Rattle.node.specs.Step.{Station, Answer, Silent, Says, Declines, Stepped, step_of}
use Rattle.world_stations.specs.declared.dir.Dir.{Dir}
use Rattle.world_stations.specs.declared.dir.Dir.TheVariants.{Up, Down}
use Rattle.world_stations.specs.declared.step.Step.{Step}
use Rattle.world_stations.specs.declared.step.Step.TheVariants.{Deliver, Resend, Reconnect, Announce, Advance, Forget}
use Rattle.world_stations.specs.declared.outcome.Outcome.{Outcome}
use Rattle.world_stations.specs.declared.outcome.Outcome.TheVariants as outcome

-- all stations; for each federate all frames that it ever sent, and all that were ever sent to it, oldest first; and
-- the steps made
pub record World (OfCoordinator OfFederate : Type 0) : Type 0 where
  pub coordinator : Station OfCoordinator
  pub federates : List (Station OfFederate)
  pub up : List (List Frame)
  pub down : List (List Frame)
  pub steps : List Step

-- all frames ever sent in a direction: no frame where there is no such federate
abbrev pub frames_in : {OfCoordinator OfFederate : Type 0} → World OfCoordinator OfFederate → Dir → List Frame
frames_in w (Up j) = get_or w.up j []
frames_in w (Down j) = get_or w.down j []

-- an event at a node
pub record Occurrence : Type 0 where
  pub node : NodeId
  pub event : Event

-- the federate of a direction
abbrev pub federate_of : Dir → ℕ
federate_of (Up j) = j
federate_of (Down j) = j

-- a frame of a direction comes to its receiver
abbrev pub comes : Dir → Frame → Occurrence
comes (Up j) frame = record { node = Coordinator; event = event.Frame j frame }
comes (Down j) frame = record { node = Federate j; event = event.Frame 0 frame }

-- the sender of a direction sends again what isn't acknowledged
abbrev pub sends_again : Dir → Occurrence
sends_again (Up j) = record { node = Federate j; event = event.Resend 0 }
sends_again (Down j) = record { node = Coordinator; event = event.Resend j }

-- the sender of a direction greets
abbrev pub greets : Dir → Occurrence
greets (Up j) = record { node = Federate j; event = event.Hello 0 }
greets (Down j) = record { node = Coordinator; event = event.Hello j }

-- the k-th frame, counted from 1
abbrev pub frame_at : List Frame → ℕ → Option Frame
frame_at frames zero = None
frame_at frames (suc k) = slice_get frames k

-- that frame comes, if there is one
abbrev pub delivered : Dir → Option Frame → Option Occurrence
delivered dir None = None
delivered dir (Some frame) = Some (comes dir frame)

-- this happens, if there is such a federate
abbrev pub if_there : {OfCoordinator OfFederate : Type 0} → World OfCoordinator OfFederate → ℕ → Occurrence
    → Option Occurrence
if_there w j occurrence = if nat_lt j (length w.federates) then Some occurrence else None

-- which event a step is, and at which node. It is None where the step doesn't apply. To forget is no event
abbrev pub occurrence_of : {OfCoordinator OfFederate : Type 0} → World OfCoordinator OfFederate → Step
    → Option Occurrence
occurrence_of w (Deliver dir k) = delivered dir (frame_at (frames_in w dir) k)
occurrence_of w (Resend dir) = if_there w (federate_of dir) (sends_again dir)
occurrence_of w (Reconnect dir) = if_there w (federate_of dir) (greets dir)
occurrence_of w (Announce j) = if_there w j (record { node = Federate j; event = event.Announce })
occurrence_of w (Advance j) = if_there w j (record { node = Federate j; event = event.Advance })
occurrence_of w (Forget j) = None

-- how a step ended, by the station's answer
abbrev pub outcome_of : Answer → Outcome
outcome_of Silent = outcome.Nothing
outcome_of (Says frames) = outcome.Done
outcome_of (Declines number frames) = outcome.Refused number

-- the frames that go out with an answer
abbrev pub frames_of : Answer → List Outgoing
frames_of Silent = []
frames_of (Says frames) = frames
frames_of (Declines number frames) = frames

-- each frame is appended to the frames ever sent to its peer
abbrev pub sent_out : List (List Frame) → List Outgoing → List (List Frame)
sent_out lists [] = lists
sent_out lists (out ∷ rest) = sent_out (set lists out.peer (get_or lists out.peer [] ++ out.frame ∷ [])) rest

-- the world after an event, and how that ended
pub record Applied (OfCoordinator OfFederate : Type 0) : Type 0 where
  pub world : World OfCoordinator OfFederate
  pub outcome : Outcome

-- nothing happens
abbrev pub unchanged : {OfCoordinator OfFederate : Type 0} → World OfCoordinator OfFederate
    → Applied OfCoordinator OfFederate
unchanged w = record { world = w; outcome = outcome.Nothing }

-- the world after a step of the coordinator's station
abbrev pub after_coordinator : {OfCoordinator OfFederate : Type 0} → World OfCoordinator OfFederate
    → Stepped OfCoordinator → Applied OfCoordinator OfFederate
after_coordinator w stepped =
    record {
      world = record w { coordinator = stepped.station; down = sent_out w.down (frames_of stepped.answer) };
      outcome = outcome_of stepped.answer;
    }

-- the world after a step of federate j's station
abbrev pub after_federate : {OfCoordinator OfFederate : Type 0} → World OfCoordinator OfFederate → ℕ
    → Stepped OfFederate → Applied OfCoordinator OfFederate
after_federate w j stepped =
    record {
      world =
          record w {
            federates = set w.federates j stepped.station;
            up = set w.up j (get_or w.up j [] ++ map (λ out. out.frame) (frames_of stepped.answer));
          };
      outcome = outcome_of stepped.answer;
    }

-- an event at federate j's station, if there is one
abbrev pub at_federate : {OfCoordinator OfFederate Row : Type 0} → Core OfFederate Row → World OfCoordinator OfFederate
    → ℕ → Event → Option (Station OfFederate) → Applied OfCoordinator OfFederate
at_federate of_federate w j e None = unchanged w
at_federate of_federate w j e (Some s) = after_federate w j (step_of of_federate false s e)

-- an event at a node: one step of its station
abbrev pub at_node : {OfCoordinator OfFederate CoordinatorRow Row : Type 0} → Core OfCoordinator CoordinatorRow
    → Core OfFederate Row → World OfCoordinator OfFederate → NodeId → Event → Applied OfCoordinator OfFederate
at_node of_coordinator of_federate w Coordinator e = after_coordinator w (step_of of_coordinator true w.coordinator e)
at_node of_coordinator of_federate w (Federate j) e = at_federate of_federate w j e (slice_get w.federates j)

-- an event, if there is one
abbrev pub happens : {OfCoordinator OfFederate CoordinatorRow Row : Type 0} → Core OfCoordinator CoordinatorRow
    → Core OfFederate Row → World OfCoordinator OfFederate → Option Occurrence → Applied OfCoordinator OfFederate
happens of_coordinator of_federate w None = unchanged w
happens of_coordinator of_federate w (Some o) = at_node of_coordinator of_federate w o.node o.event

-- a blank end in its place, with the next incarnation
abbrev pub blank_next : Image → Image
blank_next e = blank e.federate (e.incarnation + 1) e.room

-- a blank station in its place: all is as it was made, but for the incarnation
abbrev pub forgotten : {OfFederate Row : Type 0} → Core OfFederate Row → Station OfFederate → Station OfFederate
forgotten of_federate s = record { node = of_federate.initial s.node; ends = map blank_next s.ends }

-- whether there is a next incarnation
abbrev pub has_next : List Image → Bool
has_next [] = true
has_next (e ∷ ends) = nat_lt (e.incarnation + 1) (2 ^ 32) && has_next ends

-- federate j forgets all, if there is one and there is a next incarnation; the frames sent stay
abbrev pub forgets : {OfCoordinator OfFederate Row : Type 0} → Core OfFederate Row → World OfCoordinator OfFederate → ℕ
    → Option (Station OfFederate) → Applied OfCoordinator OfFederate
forgets of_federate w j None = unchanged w
forgets of_federate w j (Some s) =
    if has_next s.ends
    then record { world = record w { federates = set w.federates j (forgotten of_federate s) }; outcome = outcome.Done }
    else unchanged w

-- what a step does, but for the list of steps
abbrev pub does : {OfCoordinator OfFederate CoordinatorRow Row : Type 0} → Core OfCoordinator CoordinatorRow
    → Core OfFederate Row → World OfCoordinator OfFederate → Step → Applied OfCoordinator OfFederate
does of_coordinator of_federate w (Forget j) = forgets of_federate w j (slice_get w.federates j)
does of_coordinator of_federate w step = happens of_coordinator of_federate w (occurrence_of w step)

-- every step is listed, also one that is refused or doesn't apply
abbrev pub listed : {OfCoordinator OfFederate : Type 0} → Step → Applied OfCoordinator OfFederate
    → Applied OfCoordinator OfFederate
listed step made = record made { world = record made.world { steps = made.world.steps ++ step ∷ [] } }

-- a step
abbrev pub applied : {OfCoordinator OfFederate CoordinatorRow Row : Type 0} → Core OfCoordinator CoordinatorRow
    → Core OfFederate Row → World OfCoordinator OfFederate → Step → Applied OfCoordinator OfFederate
applied of_coordinator of_federate w step = listed step (does of_coordinator of_federate w step)

-- the world after steps, made one after the other
abbrev pub after_steps : {OfCoordinator OfFederate CoordinatorRow Row : Type 0} → Core OfCoordinator CoordinatorRow
    → Core OfFederate Row → World OfCoordinator OfFederate → List Step → World OfCoordinator OfFederate
after_steps of_coordinator of_federate w [] = w
after_steps of_coordinator of_federate w (step ∷ steps) =
    after_steps of_coordinator of_federate (applied of_coordinator of_federate w step).world steps

-- a world of which nothing was asked yet: this many federates, each with this node, and the room of each link end
abbrev pub opened : {OfCoordinator OfFederate : Type 0} → OfCoordinator → ℕ → (ℕ → OfFederate) → ℕ
    → World OfCoordinator OfFederate
opened of_coordinator count federate_at room =
    record {
      coordinator = record { node = of_coordinator; ends = map (λ j. blank j 1 room) (range_with_len 0 count) };
      federates = map (λ j. record { node = federate_at j; ends = blank j 1 room ∷ [] }) (range_with_len 0 count);
      up = map (λ j. []) (range_with_len 0 count);
      down = map (λ j. []) (range_with_len 0 count);
      steps = [];
    }
