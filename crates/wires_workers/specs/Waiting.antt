-- The frames that wait for a writer's next send, and the versions by which they are written.
use Rattle.std.specs.Prelude.{ℕ, Bool, false, ◌&&◌, if◌then◌else◌, nat_eq, nat_le, List, [], ◌∷◌, ◌++◌, Option, None}
use Rattle.std.specs.Prelude.{Some}
use Rattle.signal.specs.declared.frame.Frame.{Frame}
use Rattle.signal.specs.declared.frame.Frame.TheVariants.{Hello, Data, Ack, Refuse}
use Rattle.signal.specs.declared.wire.TheConstants.{FIRST_VERSION}
use Rattle.signal.specs.Pieces.{written}

-- the node's own version, that of the peer's last Hello on this connection, the frames that wait, and behind them the
-- last Ack, if one waits
pub record Waiting : Type 0 where
  pub own : ℕ
  pub peer : ℕ
  pub frames : List Frame
  pub ack : Option Frame

-- nothing waits on a new connection: no Hello has come on it, so its peer is taken to read the first version alone
abbrev pub fresh : ℕ → Waiting
fresh own = record { own = own; peer = FIRST_VERSION; frames = []; ack = None }

-- nothing waits any more
abbrev pub emptied : Waiting → Waiting
emptied w = record w { frames = []; ack = None }

-- where this frame is an Ack, the other one needn't be sent besides: it is an Ack of the same incarnation, and says no
-- more
abbrev pub covers : Frame → Frame → Bool
covers (Ack incarnation last_taken) (Ack other earlier) = nat_eq incarnation other && nat_le earlier last_taken
covers (Ack incarnation last_taken) (Hello hello) = false
covers (Ack incarnation last_taken) (Data other number signal) = false
covers (Ack incarnation last_taken) (Refuse other refusal) = false
covers (Hello hello) frame = false
covers (Data incarnation number signal) frame = false
covers (Refuse incarnation refusal) frame = false

-- the Ack, if one waits
abbrev pub acks : Option Frame → List Frame
acks None = []
acks (Some ack) = ack ∷ []

-- all that is to be sent, in this order
abbrev pub all_frames : Waiting → List Frame
all_frames w = w.frames ++ acks w.ack

-- its bytes
abbrev pub all_bytes : Waiting → List ℕ
all_bytes w = written w.own w.peer (all_frames w)

-- the Ack that waits, where the new one doesn't cover it
abbrev pub uncovered : Option Frame → Frame → List Frame
uncovered None frame = []
uncovered (Some ack) frame = if covers frame ack then [] else ack ∷ []

-- a frame waits too: an Ack in place of the one before, if it covers that
abbrev pub with_frame : Waiting → Frame → Waiting
with_frame w (Ack incarnation last_taken) =
    record w {
      frames = w.frames ++ uncovered w.ack (Ack incarnation last_taken);
      ack = Some
          (Ack incarnation last_taken);
    }
with_frame w (Hello hello) = record w { frames = w.frames ++ Hello hello ∷ [] }
with_frame w (Data incarnation number signal) = record w { frames = w.frames ++ Data incarnation number signal ∷ [] }
with_frame w (Refuse incarnation refusal) = record w { frames = w.frames ++ Refuse incarnation refusal ∷ [] }
