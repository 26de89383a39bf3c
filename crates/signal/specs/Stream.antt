-- A stream of bytes that is read frame by frame.
use Rattle.std.specs.Prelude.{◌≡◌, List, [], ◌∷◌, ◌++◌, ℕ, slice_index, IsTrue, IsSome, IfSome, ◌==◌, ◌⊎◌, Option, Some}
use Rattle.std.specs.Prelude.{None, Result, Ok, Err, is_some, if◌then◌else◌}
use Rattle.signal.specs.declared.wire.TheConstants.{FIRST_VERSION, HELLO_KIND}
use Rattle.signal.specs.declared.frame.Frame.{Frame}
use Rattle.signal.specs.declared.fault.FrameFault.{FrameFault}
use Rattle.signal.specs.Frame.{Spells}
use Rattle.signal.specs.Fault.{is_partial, fault_at}

-- the fault that stands for good, if one does, the frames of a begun Batch that are still to be given, the bytes that
-- are still to be read behind them, and the version of the last Hello that was given
pub record Stream : Type 0 where
  pub fault : Option FrameFault
  pub begun : List Frame
  pub rest : List ℕ
  pub version : ℕ

-- where a fault stands, no Batch is begun, and the fault is that of the frame which should begin the rest
abbrev pub IsStream : Stream → Type 0
IsStream s = IfSome s.fault (λ fault. (s.begun ≡ []) × (fault_at s.rest ≡ Some fault))

abbrev pub start : Stream
start = record { fault = None; begun = []; rest = []; version = FIRST_VERSION }

-- more bytes come; where a fault stands they change nothing
abbrev pub fed : Stream → List ℕ → Stream
fed s bytes = if is_some s.fault then s else record s { rest = s.rest ++ bytes }

-- the fault that stands, or else that of the frame which should begin the rest
abbrev pub fault_of : Stream → Option FrameFault
fault_of s = if is_some s.fault then s.fault else fault_at s.rest

-- the version once a frame of this body was given
abbrev pub version_after : ℕ → List ℕ → ℕ
version_after before body = if slice_index body 0 == HELLO_KIND then slice_index body 1 else before

-- The next frame. Where a Batch is begun, it is the next of that. Else it is the first that a spelling at the front of
-- the rest carries: the spelling is taken off, and what else it carries is begun.
pub data Comes (old : Stream) (frame : Frame) (new : Stream) : Type 0 where
  goes_on : old.begun ≡ frame ∷ new.begun → new.rest ≡ old.rest → new.version ≡ old.version → Comes old frame new
  begins : (front : List ℕ) (spelling : Spells front (frame ∷ new.begun)) → old.begun ≡ []
      → old.rest ≡ front ++ new.rest
      → new.version ≡ version_after old.version spelling.body → Comes old frame new

-- a frame comes, and there is no fault
pub record GivesFrame (old : Stream) (frame : Frame) (new : Stream) : Type 0 where
  pub sound : old.fault ≡ None
  pub comes : Comes old frame new
  pub still_sound : new.fault ≡ None

-- the bytes so far end inside a frame: nothing changes
pub record GivesNothing (old new : Stream) : Type 0 where
  pub sound : old.fault ≡ None
  pub none_begun : old.begun ≡ []
  pub partial : IsTrue (is_partial old.rest)
  pub same : new ≡ old

-- a fault: from now on it stands
pub record GivesFault (old : Stream) (fault : FrameFault) (new : Stream) : Type 0 where
  pub none_begun : old.begun ≡ []
  pub found : fault_of old ≡ Some fault
  pub stands : new ≡ record old { fault = Some fault }

-- what the next frame is, and how the stream goes on behind it
abbrev pub Gives : Stream → Result (Option Frame) FrameFault → Stream → Type 0
Gives old (Ok (Some frame)) new = GivesFrame old frame new
Gives old (Ok None) new = GivesNothing old new
Gives old (Err fault) new = GivesFault old fault new

-- spellings one after the other, which carry these frames, and then a rest
pub data Splits : List ℕ → List Frame → List ℕ → Type 0 where
  done : {bytes rest : List ℕ} {frames : List Frame} → bytes ≡ rest → frames ≡ [] → Splits bytes frames rest
  more : {bytes rest : List ℕ} {frames : List Frame} (front behind : List ℕ) (some others : List Frame)
      → Spells front some → bytes ≡ front ++ behind
      → frames ≡ some ++ others → Splits behind others rest → Splits bytes frames rest

-- no frame stands at the front: the bytes end inside one, or it has a fault
abbrev pub HasNoFrame : List ℕ → Type 0
HasNoFrame bytes = IsTrue (is_partial bytes) ⊎ IsSome (fault_at bytes)

-- a call of a reader: bytes that it took, or what `next` answered
pub data Call : Type 0 where
  feed : List ℕ → Call
  answer : Result (Option Frame) FrameFault → Call

-- these calls, one after the other, lead from one stream to the other
abbrev pub Session : Stream → List Call → Stream → Type 0
Session old [] new = old ≡ new
Session old (feed bytes ∷ calls) new = Session (fed old bytes) calls new
Session old (answer given ∷ calls) new = (between : Stream) × Gives old given between × Session between calls new

-- all bytes that were fed
abbrev pub bytes_fed : List Call → List ℕ
bytes_fed [] = []
bytes_fed (feed bytes ∷ calls) = bytes ++ bytes_fed calls
bytes_fed (answer given ∷ calls) = bytes_fed calls

-- the frame of an answer, if it has one
abbrev pub frames_of : Result (Option Frame) FrameFault → List Frame
frames_of (Ok (Some frame)) = frame ∷ []
frames_of (Ok None) = []
frames_of (Err fault) = []

-- all frames that were given
abbrev pub frames_given : List Call → List Frame
frames_given [] = []
frames_given (feed bytes ∷ calls) = frames_given calls
frames_given (answer given ∷ calls) = frames_of given ++ frames_given calls

-- the bytes are spellings of these frames, in order, and of those that are still to be given, and then the rest; bytes
-- that came after a fault stand behind it, and the fault is that of the frame which should begin the rest
pub record TellsStream (bytes : List ℕ) (frames : List Frame) (s : Stream) : Type 0 where
  pub later : List ℕ
  pub splits : Splits bytes (frames ++ s.begun) (s.rest ++ later)
  pub nothing_later : s.fault ≡ None → later ≡ []
  pub in_its_place : (fault : FrameFault) → s.fault ≡ Some fault → fault_at s.rest ≡ Some fault
