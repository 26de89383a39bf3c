-- A link with any nodes at its two ends, of which the second may forget all: what may be done at one end, and what both
-- have taken then.
use Rattle.std.specs.Prelude.{◌≡◌, ◌≢◌, ℕ, ◌+◌, ◌≤◌, length, take, Bool, true, false, if◌then◌else◌, List, [], ◌∷◌}
use Rattle.std.specs.Prelude.{◌++◌, slice_get, Option, None, Some, Result, Ok, Err}
use Rattle.signal.specs.declared.signal.Signal.{Signal}
use Rattle.signal.specs.declared.frame.Frame.{Frame}
use Rattle.signal.specs.declared.frame.Frame.TheVariants.{Hello, Data, Ack, Refuse}
use Rattle.link.specs.declared.arrival.Arrival.{Arrival}
use Rattle.link.specs.declared.arrival.Arrival.TheVariants as arrival
use Rattle.link.specs.declared.fault.LinkFault.{LinkFault}
use Rattle.signal.specs.Batch.{numbered}
use Rattle.link_laws.specs.Direction.{offered_in}
use Rattle.link.specs.Image.{Image, blank, last_number, answer_of, after_frame, after_close, ack_of, hello_of}
use Rattle.link.specs.Image.{resent_by}

-- one side of a link: its end, the frames that it ever sent, and the signals that its node took
pub record Side : Type 0 where
  pub end : Image
  pub sent : List Frame
  pub took : List Signal

-- a side that sends more frames
abbrev pub says : Side → List Frame → Side
says s frames = record s { sent = s.sent ++ frames }

-- a side whose node sends these signals, if its end isn't closed
abbrev pub offers : Side → List Signal → Side
offers s signals =
    if s.end.closed then s
    else record {
      end = record s.end { kept = s.end.kept ++ signals };
      sent = s.sent ++ numbered s.end.incarnation (last_number s.end + 1) signals;
      took = s.took;
    }

-- a side after a frame that its end took in by itself
abbrev pub notes : Side → Frame → Side
notes s frame = record s { end = after_frame s.end frame }

-- a side whose node takes a signal: it is acknowledged
abbrev pub takes : Side → Frame → Signal → Side
takes s frame signal =
    record {
      end = after_frame s.end frame;
      sent = s.sent ++ ack_of (after_frame s.end frame) ∷ [];
      took = s.took
          ++ signal ∷ [];
    }

-- a side after a frame that its end doesn't refuse. A signal in its turn goes to the node, and is taken or isn't; a
-- repeated one is acknowledged again; a greeting is answered by all that is kept
abbrev pub admits : (is_taken : Bool) → Side → Frame → Arrival → Side
admits true s (Data i n signal) arrival.Signal = takes s (Data i n signal) signal
admits false s (Data i n signal) arrival.Signal = s
admits is_taken s (Data i n signal) other = says (notes s (Data i n signal)) (ack_of s.end ∷ [])
admits is_taken s (Hello hello) other = says (notes s (Hello hello)) (resent_by (after_frame s.end (Hello hello)))
admits is_taken s (Ack i n) other = notes s (Ack i n)
admits is_taken s (Refuse i n) other = notes s (Refuse i n)

-- by what the end answers
abbrev pub hears : (is_taken : Bool) → Side → Frame → Result Arrival LinkFault → Side
hears is_taken s frame (Ok arrived) = admits is_taken s frame arrived
hears is_taken s frame (Err fault) = s

-- a frame comes, if there is one
abbrev pub gets : (is_taken : Bool) → Side → Option Frame → Side
gets is_taken s None = s
gets is_taken s (Some frame) = hears is_taken s frame (answer_of s.end frame)

-- a greeting, if the end isn't closed
abbrev pub greeting : Option Frame → List Frame
greeting None = []
greeting (Some frame) = frame ∷ []

-- what may be done at a side: a frame that the other sent at this place comes, and its signal, if it is one in its
-- turn, is taken or isn't; the node sends signals; all that is kept is sent again; the other side is greeted; the link
-- is closed, and the other side is answered so with a number; or a frame of another incarnation is sent
pub data Act : Type 0 where
  Gets : (place : ℕ) → (is_taken : Bool) → Act
  Offers : (signals : List Signal) → Act
  Resends : Act
  Greets : Act
  Closes : (number : ℕ) → Act
  TurnsAway : (incarnation : ℕ) → (number : ℕ) → Act

-- a side after an act, where the other side has sent these frames
abbrev pub side_after : Side → List Frame → Act → Side
side_after s coming (Gets place is_taken) = gets is_taken s (slice_get coming place)
side_after s coming (Offers signals) = offers s signals
side_after s coming Resends = says s (resent_by s.end)
side_after s coming Greets = says s (greeting (hello_of s.end))
side_after s coming (Closes number) = says (record s { end = after_close s.end }) (Refuse s.end.incarnation number ∷ [])
side_after s coming (TurnsAway incarnation number) = says s (Refuse incarnation number ∷ [])

-- both sides
pub record Link : Type 0 where
  pub first : Side
  pub second : Side

-- a blank side in place of this one, with the next incarnation; what was sent stays
abbrev pub replaced : Side → Side
replaced s = record { end = blank s.end.federate (s.end.incarnation + 1) s.end.room; sent = s.sent; took = [] }

-- an act at the first side, or at the second; or the second one forgets all
pub data At : Type 0 where
  First : (act : Act) → At
  Second : (act : Act) → At
  Forgets : At

abbrev pub link_after : Link → At → Link
link_after l (First act) = record { first = side_after l.first l.second.sent act; second = l.second }
link_after l (Second act) = record { first = l.first; second = side_after l.second l.first.sent act }
link_after l Forgets = record { first = l.first; second = replaced l.second }

-- after acts, newest first
abbrev pub after_acts : Link → List At → Link
after_acts l [] = l
after_acts l (act ∷ earlier) = link_after (after_acts l earlier) act

-- a side of which nothing was asked yet
abbrev pub fresh : Image → Side
fresh e = record { end = e; sent = []; took = [] }

-- a federate's link in an incarnation, of which nothing was asked yet
abbrev pub initial_link : (federate incarnation room : ℕ) → Link
initial_link federate incarnation room =
    record { first = fresh (blank federate incarnation room); second = fresh (blank federate incarnation room) }

-- what the second side took is what the first one offered, in order, up to the number that it took
pub record IsTakenInOrder (incarnation : ℕ) (s r : Side) : Type 0 where
  pub offered : r.end.taken ≤ length (offered_in incarnation s.sent)
  pub in_order : r.took ≡ take r.end.taken (offered_in incarnation s.sent)

-- no frame that the second side sent tells the first one of signals taken that were never offered
abbrev pub TellsNothingUnsent : Side → Side → Type 0
TellsNothingUnsent s r =
    (place : ℕ) (frame : Frame) → slice_get r.sent place ≡ Some frame
    → answer_of s.end frame ≢ Err LinkFault.AckOfUnsent
