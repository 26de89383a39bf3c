-- A begun Batch, of which signals are still to be given, and what a reader finds at the front of its bytes.
use Rattle.std.specs.Prelude.{◌≡◌, ℕ, ◌+◌, ◌-◌, ◌^◌, ◌<◌, ◌≤◌, zero, suc, ◌==◌, nat_lt, if◌then◌else◌, List, [], ◌∷◌}
use Rattle.std.specs.Prelude.{◌++◌, length, drop, slice_index}
use Rattle.std.specs.List.{flat_map, AllByRecursion}
use Rattle.std.specs.Int.{w64, cast_signed}
use Rattle.tag.specs.LogicalTime.{LogicalTime, forever}
use Rattle.signal.specs.declared.wire.TheConstants.{LEAST_SIGNALS, MOST_SIGNALS, NET_KIND, LTC_KIND, TAG_KIND}
use Rattle.signal.specs.declared.signal.Signal.{Signal}
use Rattle.signal.specs.declared.signal.Signal.TheVariants.{Net, Ltc, Tag, Msg}
use Rattle.signal.specs.declared.frame.Frame.{Frame}
use Rattle.signal.specs.declared.batch.Begun.{Begun}
use Rattle.signal.specs.declared.front.Front.{Front}
use Rattle.signal.specs.Signal.{signal_bytes, IsSignal}
use Rattle.signal.specs.Batch.{numbered, batch_of}
use Rattle.signal.specs.Frame.{Carries, Spells}
use Rattle.signal.specs.Fault.{number_at, signal_size, tag_place}
use Rattle.signal.specs.Stream.{version_after}

-- the tag of a time and a microstep in their bytes
abbrev pub tag_of : ℕ → ℕ → LogicalTime
tag_of time microstep = if nat_lt time forever.time then record { time = time; microstep = microstep } else forever

-- the signal whose fields stand at the front of the bytes
abbrev pub signal_at : List ℕ → Signal
signal_at bytes =
    let kind = slice_index bytes 0 in
    let tag = tag_of (number_at (tag_place kind) 8 bytes) (number_at (tag_place kind + 8) 4 bytes) in
    if kind == NET_KIND then Net tag
    else if kind == LTC_KIND then Ltc tag
    else if kind == TAG_KIND then Tag tag
    else Msg (number_at 1 2 bytes) tag (cast_signed w64 (number_at 15 8 bytes))

-- this many signals, one behind the other
abbrev pub signals_at : ℕ → List ℕ → List Signal
signals_at zero bytes = []
signals_at (suc n) bytes = signal_at bytes ∷ signals_at n (drop (signal_size (slice_index bytes 0)) bytes)

-- the frames that are still to be given, whose signals stand at the front of the bytes
abbrev pub frames_at : Begun → List ℕ → List Frame
frames_at begun bytes = numbered begun.incarnation (begun.last + 1 - begun.count) (signals_at begun.count bytes)

-- n signals fill the bytes
pub record AreSignals (n : ℕ) (bytes : List ℕ) : Type 0 where
  pub signals : List Signal
  pub count_is : length signals ≡ n
  pub each : AllByRecursion IsSignal signals
  pub filled : bytes ≡ flat_map signal_bytes signals

-- a signal begins the bytes
pub record BeginsSignal (bytes : List ℕ) : Type 0 where
  pub signal : Signal
  pub behind : List ℕ
  pub is_signal : IsSignal signal
  pub begins : bytes ≡ signal_bytes signal ++ behind

-- the signals that are still to be given begin the bytes
pub record HasSignals (begun : Begun) (bytes : List ℕ) : Type 0 where
  pub signals : List Signal
  pub count_is : length signals ≡ begun.count
  pub each : AllByRecursion IsSignal signals
  pub begins : bytes ≡ flat_map signal_bytes signals ++ drop begun.size bytes
  pub size_is : length (flat_map signal_bytes signals) ≡ begun.size
  pub has_numbers : begun.count ≤ begun.last + 1

-- all frames of the Batch that this body is are still to be given
pub record IsBegun (body : List ℕ) (begun : Begun) : Type 0 where
  pub first : ℕ
  pub signals : List Signal
  pub several : LEAST_SIGNALS ≤ begun.count
  pub few : begun.count ≤ MOST_SIGNALS
  pub incarnation_fits : begun.incarnation < 2 ^ 32
  pub last_fits : begun.last < 2 ^ 64
  pub last_is : first + begun.count ≡ begun.last + 1
  pub count_is : length signals ≡ begun.count
  pub size_is : length (flat_map signal_bytes signals) ≡ begun.size
  pub each : AllByRecursion IsSignal signals
  pub is_body : body ≡ batch_of begun.incarnation first signals

-- of a whole body: its first frame, what is begun behind that, and the version once it was given, which was `before`
pub record IsFirst (before : ℕ) (body : List ℕ) (front : Front) : Type 0 where
  pub within : front.size ≤ length body
  pub carries : Carries body (front.frame ∷ frames_at front.begun (drop front.size body))
  pub begun : HasSignals front.begun (drop front.size body)
  pub ends : length (drop front.size body) ≡ front.begun.size
  pub version_is : front.version ≡ version_after before body

-- the same of the spelling that begins the bytes
pub record IsFront (before : ℕ) (bytes : List ℕ) (front : Front) : Type 0 where
  pub within : front.size ≤ length bytes
  pub spelled : List ℕ
  pub spelling : Spells spelled (front.frame ∷ frames_at front.begun (drop front.size bytes))
  pub begins : bytes ≡ spelled ++ drop front.begun.size (drop front.size bytes)
  pub begun : HasSignals front.begun (drop front.size bytes)
  pub version_is : front.version ≡ version_after before spelling.body
