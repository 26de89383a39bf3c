-- Which frames needn't be handed on to the peer that they are for.
use Rattle.std.specs.Prelude.{◌≡◌, Bool, true, false, not, ◌&&◌, if◌then◌else◌, nat_eq, nat_lt, List, [], ◌∷◌, Option}
use Rattle.std.specs.Prelude.{None, Some}
use Rattle.std.specs.List.{filter, list_any}
use Rattle.signal.specs.declared.frame.Frame.{Frame}
use Rattle.signal.specs.declared.frame.Frame.TheVariants.{Hello, Data, Ack, Refuse}
use Rattle.node.specs.declared.outgoing.Outgoing.{Outgoing}
use Rattle.wires_workers.specs.LoneAcks.{is_ack}
use Rattle.wires_workers.specs.Waiting.{covers}

-- whether one of these covers it
abbrev pub is_covered : Outgoing → List Outgoing → Bool
is_covered outgoing later = list_any (λ other. covers other.frame outgoing.frame) later

-- of the frames for one peer, these are handed on: all, in their order, but Acks that a later one of these covers
pub data IsHandedOn : List Outgoing → List Outgoing → Type 0 where
  none : IsHandedOn [] []
  handed_on : {frames handed : List Outgoing} (outgoing : Outgoing) →
      IsHandedOn frames handed → IsHandedOn (outgoing ∷ frames) (outgoing ∷ handed)
  left_out : {frames handed : List Outgoing} (outgoing : Outgoing) →
      IsHandedOn frames handed → is_covered outgoing handed ≡ true → IsHandedOn (outgoing ∷ frames) handed

-- the first one, where the other is none
abbrev pub or_else : Option Outgoing → Option Outgoing → Option Outgoing
or_else None other = other
or_else (Some first) other = Some first

-- the last Ack among frames
abbrev pub last_ack : List Outgoing → Option Outgoing
last_ack [] = None
last_ack (outgoing ∷ frames) = or_else (last_ack frames) (if is_ack outgoing.frame then Some outgoing else None)

-- whether a frame is an Ack of the same incarnation as another one, and says less
abbrev pub is_below : Frame → Frame → Bool
is_below (Ack incarnation last_taken) (Ack other later) = nat_eq incarnation other && nat_lt last_taken later
is_below (Ack incarnation last_taken) (Hello hello) = false
is_below (Ack incarnation last_taken) (Data other number signal) = false
is_below (Ack incarnation last_taken) (Refuse other refusal) = false
is_below (Hello hello) frame = false
is_below (Data incarnation number signal) frame = false
is_below (Refuse incarnation refusal) frame = false

-- whether it is an Ack for the same peer and of the same incarnation as another one, and says less
abbrev pub says_less : Outgoing → Outgoing → Bool
says_less outgoing ack = nat_eq outgoing.peer ack.peer && is_below outgoing.frame ack.frame

-- without the Acks that say less than this one
abbrev pub without_below : Outgoing → List Outgoing → List Outgoing
without_below ack frames = filter (λ outgoing. not (says_less outgoing ack)) frames
