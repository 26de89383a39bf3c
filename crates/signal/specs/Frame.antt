-- Frames as bytes: four bytes of length, and then that many bytes of body.
use Rattle.std.specs.Prelude.{◌≡◌, ℕ, ◌^◌, ◌<◌, List, [], ◌++◌, ◌∷◌, length}
use Rattle.byteorder.specs.Endian.{big_bytes}
use Rattle.signal.specs.declared.wire.TheConstants.{LENGTH_SIZE, FIRST_VERSION, HELLO_KIND, DATA_KIND, ACK_KIND}
use Rattle.signal.specs.declared.wire.TheConstants.{REFUSE_KIND}
use Rattle.signal.specs.declared.frame.Frame.{Frame}
use Rattle.signal.specs.declared.frame.Frame.TheVariants.{Hello, Data, Ack, Refuse}
use Rattle.signal.specs.Signal.{signal_bytes, IsSignal}
use Rattle.signal.specs.Batch.{IsBatch}

-- the body of a frame: its kind, for a Hello a version, and then its fields
abbrev pub body_of : ℕ → Frame → List ℕ
body_of version (Hello hello) =
    HELLO_KIND ∷ version ∷ big_bytes 2 hello.federate ++ big_bytes 4 hello.incarnation ++ big_bytes 8 hello.last_taken
body_of version (Data incarnation number signal) =
    DATA_KIND ∷ big_bytes 4 incarnation ++ big_bytes 8 number ++ signal_bytes signal
body_of version (Ack incarnation last_taken) = ACK_KIND ∷ big_bytes 4 incarnation ++ big_bytes 8 last_taken
body_of version (Refuse incarnation refusal) = REFUSE_KIND ∷ big_bytes 4 incarnation ++ big_bytes 2 refusal

-- a body behind its length
abbrev pub framed : List ℕ → List ℕ
framed body = big_bytes LENGTH_SIZE (length body) ++ body

-- the spelling of a frame by itself, where a Hello has this version
abbrev pub frame_bytes_by : ℕ → Frame → List ℕ
frame_bytes_by version frame = framed (body_of version frame)

-- the same with the first version
abbrev pub frame_bytes : Frame → List ℕ
frame_bytes frame = frame_bytes_by FIRST_VERSION frame

-- what has a spelling: every frame of the program
abbrev pub IsFrame : Frame → Type 0
IsFrame (Hello hello) = (hello.federate < 2 ^ 16) × (hello.incarnation < 2 ^ 32) × (hello.last_taken < 2 ^ 64)
IsFrame (Data incarnation number signal) = (incarnation < 2 ^ 32) × (number < 2 ^ 64) × IsSignal signal
IsFrame (Ack incarnation last_taken) = (incarnation < 2 ^ 32) × (last_taken < 2 ^ 64)
IsFrame (Refuse incarnation refusal) = (incarnation < 2 ^ 32) × (refusal < 2 ^ 16)

-- the body spells the frame, whatever version from 1 on a Hello has
pub record IsBody (body : List ℕ) (frame : Frame) : Type 0 where
  pub version : ℕ
  pub from_one : 0 < version
  pub one_byte : version < 256
  pub is_frame : IsFrame frame
  pub is_body : body ≡ body_of version frame

-- a body carries one frame, or those of a Batch
pub data Carries (body : List ℕ) : List Frame → Type 0 where
  one : (frame : Frame) → IsBody body frame → Carries body (frame ∷ [])
  several : (frames : List Frame) → IsBatch body frames → Carries body frames

-- the bytes are a spelling of these frames: a body that carries them, behind its length
pub record Spells (bytes : List ℕ) (frames : List Frame) : Type 0 where
  pub body : List ℕ
  pub carries : Carries body frames
  pub is_framed : bytes ≡ framed body
