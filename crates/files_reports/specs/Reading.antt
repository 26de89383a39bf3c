-- What a node says, read from its bytes from left to right. The first fault from the left counts.
use Rattle.std.specs.Prelude.{◌≡◌, ℕ, zero, suc, nat_lt, ◌==◌, ◌&&◌, ◌||◌, not, Bool, true, if◌then◌else◌, List, []}
use Rattle.std.specs.Prelude.{◌∷◌, ◌++◌, length, take, drop, slice_index, is_some, Result, Ok, Err}
use Rattle.std.specs.Int.{w64, cast_signed}
use Rattle.byteorder.specs.Endian.{big_number}
use Rattle.tag.specs.LogicalTime.{LogicalTime}
use Rattle.network.specs.Event.{Entry}
use Rattle.network.specs.Undivided.{Row}
use Rattle.signal.specs.declared.wire.TheConstants as wire
use Rattle.signal.specs.declared.frame.Frame.{Frame}
use Rattle.signal.specs.declared.frame.Frame.TheVariants as frames
use Rattle.signal.specs.Fault.{number_at, is_tag, is_length, body_fault}
use Rattle.signal.specs.Begun.{tag_of, signal_at}
use Rattle.node.specs.declared.event.Event.{Event}
use Rattle.node.specs.declared.event.Event.TheVariants as events
use Rattle.files_reports.specs.declared.layout.TheConstants.{COORDINATOR, FRAME_KIND, RESEND_KIND, HELLO_KIND}
use Rattle.files_reports.specs.declared.layout.TheConstants.{ANNOUNCE_KIND, ADVANCE_KIND}
use Rattle.files_reports.specs.declared.content_fault.ContentFault.{ContentFault}
use Rattle.files_reports.specs.declared.content_fault.ContentFault.TheVariants.{Short, BadTag, BadEvent, BadFrame}
use Rattle.files_reports.specs.declared.content_fault.ContentFault.TheVariants.{Trailing}
use Rattle.files_reports.specs.declared.read_fault.ReadFault.{ReadFault}
use Rattle.files_reports.specs.declared.read_fault.ReadFault.TheVariants as faults
use Rattle.files_reports.specs.Said.{Said, by_coordinator, by_federate}

-- what is read at the front of some bytes, with the bytes behind it
abbrev pub Part : Type 0 → Type 0
Part X = Result (X × List ℕ) ContentFault

-- one after the other: the first fault stands for all
infixl 10 ◌>>=◌
abbrev pub ◌>>=◌ : {A B : Type 0} → Result A ContentFault → (A → Result B ContentFault) → Result B ContentFault
(Ok x) >>= next = next x
(Err fault) >>= next = Err fault

-- it is one of those that have a spelling, and that begins the bytes, with the rest behind it
pub record IsTaken {X : Type 0} (spelling : X → List ℕ) (Is : X → Type 0) (bytes : List ℕ) (x : X)
    (rest : List ℕ) : Type 0 where
  pub is_one : Is x
  pub begins : bytes ≡ spelling x ++ rest

-- a number of this many bytes
abbrev pub number_part : ℕ → List ℕ → Part ℕ
number_part n bytes = if nat_lt (length bytes) n then Err Short else Ok (big_number n bytes, drop n bytes)

-- a tag: a time and a microstep
unfoldable pub tag_part : List ℕ → Part LogicalTime
tag_part bytes = do
  time ← number_part 8 bytes
  microstep ← number_part 4 time.1
  if is_tag true time.0 microstep.0 then Ok (tag_of time.0 microstep.0, microstep.1) else Err BadTag

-- an entry: a place and a value
unfoldable pub entry_part : List ℕ → Part Entry
entry_part bytes = do
  place ← number_part 8 bytes
  value ← number_part 8 place.1
  Ok (record { place = place.0; value = cast_signed w64 value.0 }, value.1)

-- this many of them
unfoldable pub many : {X : Type 0} → (List ℕ → Part X) → ℕ → List ℕ → Part (List X)
many part zero bytes = Ok ([], bytes)
many part (suc n) bytes = do
  first ← part bytes
  others ← many part n first.1
  Ok (first.0 ∷ others.0, others.1)

-- as many as their count says
unfoldable pub counted_part : {X : Type 0} → (List ℕ → Part X) → List ℕ → Part (List X)
counted_part part bytes = do
  count ← number_part 8 bytes
  many part count.0 count.1

-- a row of this federate
unfoldable pub row_part : ℕ → List ℕ → Part Row
row_part federate bytes = do
  tag ← tag_part bytes
  inputs ← counted_part entry_part tag.1
  outputs ← counted_part entry_part inputs.1
  Ok (record { reactor = federate; tag = tag.0; inputs = inputs.0; outputs = outputs.0 }, outputs.1)

-- no Batch, and a Hello of the first version
abbrev pub is_plain : List ℕ → Bool
is_plain body =
    let kind = slice_index body 0 in
    not (kind == wire.BATCH_KIND) && (not (kind == wire.HELLO_KIND) || slice_index body 1 == wire.FIRST_VERSION)

-- a whole body of one frame, as it is written
abbrev pub is_alone : List ℕ → Bool
is_alone body = is_length (length body) && (not (is_some (body_fault body)) && is_plain body)

-- the frame that such a body has
abbrev pub frame_in : List ℕ → Frame
frame_in body =
    let kind = slice_index body 0 in
    if kind == wire.HELLO_KIND then frames.Hello
    (record { federate = number_at 2 2 body; incarnation = number_at 4 4 body; last_taken = number_at 8 8 body })
    else if kind == wire.DATA_KIND
    then frames.Data (number_at 1 4 body) (number_at 5 8 body) (signal_at (drop wire.BEFORE_SIGNAL body))
    else if kind == wire.ACK_KIND then frames.Ack (number_at 1 4 body) (number_at 5 8 body)
    else frames.Refuse (number_at 1 4 body) (number_at 5 2 body)

-- the frame that all of a body spells
unfoldable pub body_part : List ℕ → Result Frame ContentFault
body_part body = if is_alone body then Ok (frame_in body) else Err BadFrame

-- a frame: a body behind its length
unfoldable pub frame_part : List ℕ → Part Frame
frame_part bytes = do
  size ← number_part wire.LENGTH_SIZE bytes
  if nat_lt (length size.1) size.0 then Err Short
      else (body_part (take size.0 size.1) >>= λ frame. Ok (frame, drop size.0 size.1))

-- a frame that came from a peer
unfoldable pub arrival_part : List ℕ → Part Event
arrival_part bytes = do
  peer ← number_part 8 bytes
  frame ← frame_part peer.1
  Ok (events.Frame peer.0 frame.0, frame.1)

-- an event of this kind
unfoldable pub event_of_kind : ℕ → List ℕ → Part Event
event_of_kind kind bytes =
    if kind == FRAME_KIND then arrival_part bytes
    else if kind == RESEND_KIND then (number_part 8 bytes >>= λ peer. Ok (events.Resend peer.0, peer.1))
    else if kind == HELLO_KIND then (number_part 8 bytes >>= λ peer. Ok (events.Hello peer.0, peer.1))
    else if kind == ANNOUNCE_KIND then Ok (events.Announce, bytes)
    else if kind == ADVANCE_KIND then Ok (events.Advance, bytes)
    else Err BadEvent

-- an event: its kind, and what it needs
abbrev pub event_part : List ℕ → Part Event
event_part [] = Err Short
event_part (kind ∷ bytes) = event_of_kind kind bytes

-- what the coordinator says: its journal
unfoldable pub coordinator_part : List ℕ → Part Said
coordinator_part bytes = do
  journal ← counted_part event_part bytes
  Ok (by_coordinator journal.0, journal.1)

-- what this federate says: its rows and its journal
unfoldable pub federate_part : ℕ → List ℕ → Part Said
federate_part federate bytes = do
  rows ← counted_part (row_part federate) bytes
  journal ← counted_part event_part rows.1
  Ok (by_federate federate rows.0 journal.0, journal.1)

-- what this node says
unfoldable pub said_of : ℕ → List ℕ → Part Said
said_of who bytes = if who == COORDINATOR then coordinator_part bytes else federate_part who bytes

-- what all of the bytes say
unfoldable pub said_at : List ℕ → Result Said ContentFault
said_at bytes = do
  who ← number_part 2 bytes
  said ← said_of who.0 who.1
  if length said.1 == 0 then Ok said.0 else Err Trailing

-- such a fault is the one that reading meets; out of memory may come at any time
abbrev pub Fails : {X : Type 0} → ReadFault → Result X ContentFault → Type 0
Fails (faults.Content fault) read = read ≡ Err fault
Fails faults.Memory read = Unit {0}
Fails faults.NoReport read = ⊥
Fails faults.TooLong read = ⊥
Fails faults.CutShort read = ⊥
Fails faults.OtherFiles read = ⊥

-- an answer, seen so, is what reading gives
abbrev pub Gives : {X Y : Type 0} → (X → Y) → Result X ReadFault → Result Y ContentFault → Type 0
Gives view (Ok x) read = read ≡ Ok (view x)
Gives view (Err fault) read = Fails fault read
