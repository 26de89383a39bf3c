-- A station: a node with its link ends. What it answers to an event, and what stands after it.
use Rattle.std.specs.Prelude.{◌≡◌, ℕ, Bool, true, false, ◌&&◌, not, if◌then◌else◌, nat_eq, nat_lt, List, [], ◌∷◌, map}
use Rattle.std.specs.Prelude.{set, slice_get, Option, None, Some, Result, Ok, Err}
use Rattle.signal.specs.declared.frame.Frame.{Frame}
use Rattle.signal.specs.declared.frame.Frame.TheVariants.{Hello, Data, Ack, Refuse}
use Rattle.link.specs.declared.arrival.Arrival.{Arrival}
use Rattle.link.specs.declared.arrival.Arrival.TheVariants as arrival
use Rattle.link.specs.declared.fault.LinkFault.{LinkFault}
use Rattle.link.specs.Fault as link
use Rattle.link.specs.Image.{Image, blank, answer_of, after_frame, after_close, ack_of, hello_of, resent_by}
use Rattle.protocol.specs.Outcome.{Nothing}
use Rattle.protocol.specs.Refusals.{number_of}
use Rattle.node.specs.declared.outgoing.Outgoing.{Outgoing}
use Rattle.node.specs.declared.event.Event.{Event}
use Rattle.node.specs.declared.event.Event.TheVariants as event
use Rattle.node.specs.declared.reply.Reply.{Reply}
use Rattle.node.specs.declared.reply.Reply.TheVariants as reply
use Rattle.node.specs.Numbers.{no_room, closes}
use Rattle.node.specs.Mail.{Mail}
use Rattle.node.specs.Core.{Core, Ending, Refuses, LacksRoom, Stays, Moves, ending_of}

-- a node with its ends; peer p is at place p
pub record Station (View : Type 0) : Type 0 where
  pub node : View
  pub ends : List Image

-- what a station answers: nothing changed and nothing is said; these frames go out; or a refusal by its number, with
-- frames
pub data Answer : Type 0 where
  Silent : Answer
  Says : (frames : List Outgoing) → Answer
  Declines : (number : ℕ) → (frames : List Outgoing) → Answer

-- the station after a step, and its answer
pub record Stepped (View : Type 0) : Type 0 where
  pub station : Station View
  pub answer : Answer

-- the answer that a reply gives
abbrev pub answer_in : Reply → Answer
answer_in reply.Nothing = Silent
answer_in (reply.Done frames) = Says frames.items
answer_in (reply.Refused number frames) = Declines number frames.items

-- the frames to a peer
abbrev pub addressed : ℕ → List Frame → List Outgoing
addressed peer frames = map (λ frame. record { peer = peer; frame = frame }) frames

-- the answer of what changed something, or not, and sends these frames
abbrev pub answer_with : (changed : Bool) → List Outgoing → Answer
answer_with true frames = Says frames
answer_with false [] = Silent
answer_with false (frame ∷ frames) = Says (frame ∷ frames)

-- the station stays as it was
abbrev pub same : {View : Type 0} → Station View → Answer → Stepped View
same s answer = record { station = s; answer = answer }

-- a peer's end is replaced
abbrev pub with_end : {View : Type 0} → Station View → ℕ → Image → Station View
with_end s peer e = record s { ends = set s.ends peer e }

-- the station after what its node did
abbrev pub moved : {View : Type 0} → View → Mail → Stepped View
moved after mail = record { station = record { node = after; ends = mail.ends }; answer = Says mail.frames }

-- the node says or runs something by itself
abbrev pub acts : {View : Type 0} → Station View → Ending View → Stepped View
acts s (Refuses refusal) = same s (Declines (number_of refusal) [])
acts s LacksRoom = same s (Declines no_room [])
acts s Stays = same s Silent
acts s (Moves after mail) = moved after mail

-- the frame is taken in at a peer's end, if there is one
abbrev pub received_at : List Image → ℕ → Frame → Option Image → List Image
received_at ends peer frame None = ends
received_at ends peer frame (Some e) = set ends peer (after_frame e frame)

-- the frame is taken in at a peer's end, after what the node sent
abbrev pub received : ℕ → Frame → Mail → Mail
received peer frame m = record m { ends = received_at m.ends peer frame (slice_get m.ends peer) }

-- a signal that its node refuses isn't taken; if the refusal closes the link, the peer is answered so
abbrev pub refused : {View : Type 0} → Station View → ℕ → Image → (number : ℕ) → (closing : Bool) → Stepped View
refused s peer e number true =
    record {
      station = with_end s peer (after_close e);
      answer = Declines number (addressed peer (Refuse e.incarnation number ∷ []));
    }
refused s peer e number false = same s (Declines number [])

-- a signal in its turn goes to the node: where that takes it, the frame is taken
abbrev pub takes : {View : Type 0} → Station View → ℕ → Image → Frame → Mail → Ending View → Stepped View
takes s peer e frame acknowledged (Refuses refusal) = refused s peer e (number_of refusal) (closes refusal)
takes s peer e frame acknowledged LacksRoom = same s (Declines no_room [])
takes s peer e frame acknowledged Stays = moved s.node (received peer frame acknowledged)
takes s peer e frame acknowledged (Moves after mail) = moved after (received peer frame mail)

-- the ends, and before all other frames the acknowledgement of this one
abbrev pub acknowledging : {View : Type 0} → Station View → ℕ → Image → Frame → Mail
acknowledging s peer e frame = record { ends = s.ends; frames = addressed peer (ack_of (after_frame e frame) ∷ []) }

-- whether a frame that isn't refused changes the end, other than by a signal
abbrev pub changes : Image → Frame → Bool
changes e (Hello hello) = nat_lt e.acknowledged hello.last_taken
changes e (Data _ _ _) = false
changes e (Ack _ n) = nat_lt e.acknowledged n
changes e (Refuse _ _) = true

-- what is sent for a frame that isn't refused: all that is kept, to a Hello; what was taken last, to a repeated signal
abbrev pub returned : Image → Frame → List Frame
returned e (Hello _) = resent_by e
returned e (Data _ _ _) = ack_of e ∷ []
returned e (Ack _ _) = []
returned e (Refuse _ _) = []

-- a frame that the end takes in by itself
abbrev pub noted : {View : Type 0} → Station View → ℕ → Image → Frame → Stepped View
noted s peer e frame =
    record {
      station = with_end s peer (after_frame e frame);
      answer = answer_with (changes e frame) (addressed peer (returned (after_frame e frame) frame));
    }

-- a frame that the end doesn't refuse: a signal in its turn goes to the node
abbrev pub admits : {View Row : Type 0} → Core View Row → Station View → ℕ → Image → Frame → Arrival → Stepped View
admits core s peer e (Data i n signal) arrival.Signal =
    takes s peer e (Data i n signal) (acknowledging s peer e (Data i n signal))
    (ending_of (acknowledging s peer e (Data i n signal)) (core.accept s.node peer signal))
admits core s peer e frame arrival = noted s peer e frame

-- a stranger's Hello is answered by the one node that all others are linked to
abbrev pub turned_away : (is_coordinator : Bool) → ℕ → Image → Frame → List Outgoing
turned_away is_coordinator peer e (Hello hello) =
    if is_coordinator && not (nat_eq hello.incarnation e.incarnation)
    then addressed peer (Refuse hello.incarnation (link.number_of LinkFault.Stranger) ∷ []) else []
turned_away is_coordinator peer e frame = []

-- what the end answers to a frame comes first
abbrev pub comes : {View Row : Type 0} → Core View Row → (is_coordinator : Bool) → Station View → ℕ → Image → Frame
    → Result Arrival LinkFault → Stepped View
comes core is_coordinator s peer e frame (Err fault) =
    same s (Declines (link.number_of fault) (turned_away is_coordinator peer e frame))
comes core is_coordinator s peer e frame (Ok arrival) = admits core s peer e frame arrival

-- a peer that the station hasn't is a stranger, and nothing is sent
abbrev pub nobody : {View : Type 0} → Station View → Stepped View
nobody s = same s (Declines (link.number_of LinkFault.Stranger) [])

-- a frame comes from a peer
abbrev pub frame_comes : {View Row : Type 0} → Core View Row → (is_coordinator : Bool) → Station View → ℕ → Frame
    → Option Image → Stepped View
frame_comes core is_coordinator s peer frame None = nobody s
frame_comes core is_coordinator s peer frame (Some e) = comes core is_coordinator s peer e frame (answer_of e frame)

-- what a peer hasn't acknowledged is sent again
abbrev pub resends : {View : Type 0} → Station View → ℕ → Option Image → Stepped View
resends s peer None = nobody s
resends s peer (Some e) = same s (answer_with false (addressed peer (resent_by e)))

-- the greeting, where the end isn't closed
abbrev pub greeting : ℕ → Option Frame → List Outgoing
greeting peer None = []
greeting peer (Some frame) = addressed peer (frame ∷ [])

-- a peer is greeted
abbrev pub greets : {View : Type 0} → Station View → ℕ → Option Image → Stepped View
greets s peer None = nobody s
greets s peer (Some e) = same s (answer_with false (greeting peer (hello_of e)))

-- the ends, with nothing to send so far
abbrev pub unsent : {View : Type 0} → Station View → Mail
unsent s = record { ends = s.ends; frames = [] }

-- the step of a station, memory aside: of the coordinator, or of another node
abbrev pub step_of : {View Row : Type 0} → Core View Row → (is_coordinator : Bool) → Station View → Event → Stepped View
step_of core is_coordinator s (event.Frame peer frame) =
    frame_comes core is_coordinator s peer frame (slice_get s.ends peer)
step_of core is_coordinator s (event.Resend peer) = resends s peer (slice_get s.ends peer)
step_of core is_coordinator s (event.Hello peer) = greets s peer (slice_get s.ends peer)
step_of core is_coordinator s event.Announce = acts s (ending_of (unsent s) (core.announce s.node))
step_of core is_coordinator s event.Advance = acts s (ending_of (unsent s) (core.advance s.node))

-- an event of a turn for which the node has nothing to do: it has nothing to say, or nothing to run
abbrev pub IsIdle : {View Row : Type 0} → Core View Row → Station View → Event → Type 0
IsIdle core s event.Announce = core.announce s.node ≡ Nothing
IsIdle core s event.Advance = core.advance s.node ≡ Nothing
IsIdle core s (event.Frame peer frame) = ⊥
IsIdle core s (event.Resend peer) = ⊥
IsIdle core s (event.Hello peer) = ⊥

-- an end as it was at the start
abbrev pub fresh : Image → Image
fresh e = blank e.federate e.incarnation e.room

-- the station at the start, as it was made
abbrev pub initial_of : {View Row : Type 0} → Core View Row → Station View → Station View
initial_of core s = record { node = core.initial s.node; ends = map fresh s.ends }
