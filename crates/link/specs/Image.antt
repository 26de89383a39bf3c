-- What a caller sees of a link end: of the signals offered the kept ones alone. Each answer and each step is of this
-- image. A number of a signal is 0 where there is none yet.
use Rattle.std.specs.Prelude.{ℕ, ◌+◌, ◌-◌, ◌^◌, ◌<◌, ◌≤◌, Bool, true, false, if◌then◌else◌, nat_eq, List, [], ◌∷◌, ◌++◌}
use Rattle.std.specs.Prelude.{length, drop, min, max, Option, Some, None, Result, Ok, Err}
use Rattle.signal.specs.declared.signal.Signal.{Signal}
use Rattle.signal.specs.declared.frame.Frame.{Frame}
use Rattle.signal.specs.declared.frame.Frame.TheVariants.{Hello, Data, Ack, Refuse}
use Rattle.link.specs.declared.arrival.Arrival.{Arrival}
use Rattle.link.specs.declared.fault.LinkFault.{LinkFault}
use Rattle.signal.specs.Batch.{numbered}
use Rattle.link.specs.Answer.{is_own, answer_when_open}

-- one end of the link of a federate in an incarnation, as a caller sees it
pub record Image : Type 0 where
  pub federate : ℕ
  pub incarnation : ℕ
  -- the signals offered without the first `acknowledged` ones
  pub kept : List Signal
  -- the number up to which the other side is known to have taken them
  pub acknowledged : ℕ
  -- the number of the other side's last signal that was taken here
  pub taken : ℕ
  pub closed : Bool
  -- how many signals may be kept
  pub room : ℕ

-- an image with what is reserved: how many offers take no memory
pub record EndView : Type 0 where
  pub image : Image
  pub reserved : ℕ

-- the number of the last signal offered
abbrev pub last_number : Image → ℕ
last_number i = i.acknowledged + length i.kept

-- what every end keeps: its room, and a number for each signal
pub record IsImage (i : Image) : Type 0 where
  pub in_room : length i.kept ≤ i.room
  pub has_numbers : last_number i < 2 ^ 64

-- an end of which nothing was asked yet
abbrev pub blank : (federate incarnation room : ℕ) → Image
blank federate incarnation room = record {
  federate = federate;
  incarnation = incarnation;
  kept = [];
  acknowledged = 0;
  taken = 0;
  closed = false;
  room = room;
}

-- how many signals may still be offered: the room less those kept, and the numbers that are left
abbrev pub room_left : Image → ℕ
room_left i = min (i.room - length i.kept) (2 ^ 64 - 1 - last_number i)

-- what offering answers, memory aside: the signal in a frame with the next number
abbrev pub offer_of : Image → Signal → Result Frame LinkFault
offer_of i signal =
    if i.closed then Err LinkFault.Closed
    else if nat_eq (room_left i) 0 then Err LinkFault.Full
    else Ok (Data i.incarnation (last_number i + 1) signal)

-- the signal is kept after all others
abbrev pub after_offer : Image → Signal → Image
after_offer i signal = record i { kept = i.kept ++ signal ∷ [] }

-- what a frame is to this end
abbrev pub answer_of : Image → Frame → Result Arrival LinkFault
answer_of i frame =
    if is_own i.federate i.incarnation frame
    then (if i.closed then Err LinkFault.Closed else answer_when_open (last_number i) i.taken frame)
    else Err LinkFault.Stranger

-- the kept signals up to this number are forgotten
abbrev pub acknowledge : Image → ℕ → Image
acknowledge i n = record i { kept = drop (n - i.acknowledged) i.kept; acknowledged = max i.acknowledged n }

-- what a frame that isn't refused makes of the end: of a signal, taken or repeated, the greatest number counts
abbrev pub after_frame : Image → Frame → Image
after_frame i (Hello hello) = acknowledge i hello.last_taken
after_frame i (Data _ n _) = record i { taken = max i.taken n }
after_frame i (Ack _ n) = acknowledge i n
after_frame i (Refuse _ _) = record i { closed = true }

-- closed, and otherwise as it was
abbrev pub after_close : Image → Image
after_close i = record i { closed = true }

-- the acknowledgement of all that was taken
abbrev pub ack_of : Image → Frame
ack_of i = Ack i.incarnation i.taken

-- the greeting by which an end starts again
abbrev pub hello_by : Image → Frame
hello_by i = Hello (record { federate = i.federate; incarnation = i.incarnation; last_taken = i.taken })

-- it, where the end is open
abbrev pub hello_of : Image → Option Frame
hello_of i = if i.closed then None else Some (hello_by i)

-- what an open end sends again: all that is kept
abbrev pub resent_by : Image → List Frame
resent_by i = if i.closed then [] else numbered i.incarnation (i.acknowledged + 1) i.kept
