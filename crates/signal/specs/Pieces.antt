-- How frames are cut into pieces, and how a list of frames is written.
use Rattle.std.specs.Prelude.{◌≡◌, ℕ, ◌+◌, ◌-◌, ◌≤◌, Bool, false, ◌&&◌, ◌⊎◌, if◌then◌else◌, nat_lt, nat_le, nat_eq}
use Rattle.std.specs.Prelude.{IsTrue, List, [], ◌∷◌, ◌++◌, length, flat_map, All}
use Rattle.signal.specs.declared.wire.TheConstants.{BATCHING, MOST_SIGNALS}
use Rattle.signal.specs.declared.signal.Signal.{Signal}
use Rattle.signal.specs.declared.frame.Frame.{Frame}
use Rattle.signal.specs.declared.frame.Frame.TheVariants.{Hello, Data, Ack, Refuse}
use Rattle.signal.specs.Batch.{batch_of}
use Rattle.signal.specs.Frame.{framed, frame_bytes_by}

-- the frame has the next signal of the same incarnation
abbrev pub follows : Frame → Frame → Bool
follows (Data incarnation number signal) (Data other next more) = nat_eq other incarnation && nat_eq next (number + 1)
follows (Data incarnation number signal) (Hello hello) = false
follows (Data incarnation number signal) (Ack other last_taken) = false
follows (Data incarnation number signal) (Refuse other refusal) = false
follows (Hello hello) frame = false
follows (Ack incarnation last_taken) frame = false
follows (Refuse incarnation refusal) frame = false

-- whether the first of the frames behind these goes on with the last of them
abbrev pub goes_on : List Frame → List Frame → Bool
goes_on [] behind = false
goes_on (frame ∷ []) [] = false
goes_on (frame ∷ []) (next ∷ behind) = follows frame next
goes_on (frame ∷ more ∷ frames) behind = goes_on (more ∷ frames) behind

-- a frame in front of the first piece
abbrev pub in_front : Frame → List (List Frame) → List (List Frame)
in_front frame [] = (frame ∷ []) ∷ []
in_front frame (piece ∷ pieces) = (frame ∷ piece) ∷ pieces

-- the longest stretches in which each frame goes on with the one before it
abbrev pub stretches : List Frame → List (List Frame)
stretches [] = []
stretches (frame ∷ frames) =
    if goes_on (frame ∷ []) frames then in_front frame (stretches frames) else (frame ∷ []) ∷ stretches frames

-- a stretch cut from its front into pieces as long as a Batch may be, of which the first has this many places
abbrev pub cut_stretch : (places : ℕ) → List Frame → List (List Frame)
cut_stretch places [] = []
cut_stretch places (frame ∷ frames) =
    if nat_lt 1 places then in_front frame (cut_stretch (places - 1) frames) else (frame ∷ [])
    ∷ cut_stretch MOST_SIGNALS frames

-- all pieces
abbrev pub pieces_of : List Frame → List (List Frame)
pieces_of frames = flat_map (cut_stretch MOST_SIGNALS) (stretches frames)

-- each of the frames goes on with the one before it, and there is one at least
abbrev pub IsStretch : List Frame → Type 0
IsStretch [] = ⊥
IsStretch (frame ∷ []) = Unit {0}
IsStretch (frame ∷ next ∷ frames) = IsTrue (follows frame next) × IsStretch (next ∷ frames)

-- a piece: one frame, or the Data frames of 2 to 64 signals in a row
abbrev pub IsPiece : List Frame → Type 0
IsPiece piece = IsStretch piece × (length piece ≤ MOST_SIGNALS)

-- no piece could have more from the front of the next one: it is as long as a Batch may be, or that doesn't go on with
-- it
abbrev pub AreLongest : List (List Frame) → Type 0
AreLongest [] = Unit {0}
AreLongest (piece ∷ []) = Unit {0}
AreLongest (piece ∷ next ∷ pieces) =
    ((length piece ≡ MOST_SIGNALS) ⊎ (goes_on piece next ≡ false)) × AreLongest (next ∷ pieces)

-- the pieces are the frames in order, and each is as long as it may be
pub record ArePiecesOf (frames : List Frame) (pieces : List (List Frame)) : Type 0 where
  pub in_order : flat_map (λ piece. piece) pieces ≡ frames
  pub are_pieces : All IsPiece pieces
  pub longest : AreLongest pieces

-- the signals of Data frames
abbrev pub signals_of : List Frame → List Signal
signals_of [] = []
signals_of (Data incarnation number signal ∷ frames) = signal ∷ signals_of frames
signals_of (Hello hello ∷ frames) = signals_of frames
signals_of (Ack incarnation last_taken ∷ frames) = signals_of frames
signals_of (Refuse incarnation refusal ∷ frames) = signals_of frames

-- Data frames in a row as a Batch; no other frames go into one
abbrev pub batch_bytes : List Frame → List ℕ
batch_bytes [] = []
batch_bytes (Data incarnation number signal ∷ frames) =
    framed (batch_of incarnation number (signal ∷ signals_of frames))
batch_bytes (Hello hello ∷ frames) = []
batch_bytes (Ack incarnation last_taken ∷ frames) = []
batch_bytes (Refuse incarnation refusal ∷ frames) = []

-- a piece as bytes: one frame by itself, several as a Batch
abbrev pub piece_bytes : ℕ → List Frame → List ℕ
piece_bytes own [] = []
piece_bytes own (frame ∷ []) = frame_bytes_by own frame
piece_bytes own (frame ∷ next ∷ frames) = batch_bytes (frame ∷ next ∷ frames)

-- what is written, by the version of one's own and that of the peer: the pieces, where both may have a Batch, else each
-- frame by itself
abbrev pub written : (own peer : ℕ) → List Frame → List ℕ
written own peer frames =
    if nat_le BATCHING own && nat_le BATCHING peer then flat_map (piece_bytes own) (pieces_of frames)
    else flat_map (frame_bytes_by own) frames

-- what stood there, and some bytes behind it
abbrev pub Extends : (old new : List ℕ) → Type 0
Extends old new = (more : List ℕ) × (new ≡ old ++ more)
