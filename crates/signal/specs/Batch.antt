-- Several signals in one body. They are read as the Data frames that they stand for.
use Rattle.std.specs.Prelude.{◌≡◌, ℕ, ◌+◌, ◌^◌, ◌<◌, ◌≤◌, List, [], ◌∷◌, ◌++◌, length}
use Rattle.std.specs.List.{flat_map, AllByRecursion}
use Rattle.byteorder.specs.Endian.{big_bytes}
use Rattle.signal.specs.declared.wire.TheConstants.{BATCH_KIND, LEAST_SIGNALS, MOST_SIGNALS}
use Rattle.signal.specs.declared.signal.Signal.{Signal}
use Rattle.signal.specs.declared.frame.Frame.{Frame}
use Rattle.signal.specs.declared.frame.Frame.TheVariants.{Data}
use Rattle.signal.specs.Signal.{signal_bytes, IsSignal}

-- the signals as frames, numbered from the first number on
abbrev pub numbered : (incarnation first : ℕ) → List Signal → List Frame
numbered incarnation first [] = []
numbered incarnation first (signal ∷ signals) = Data incarnation first signal ∷ numbered incarnation (first + 1) signals

-- a Batch's body: its kind, the incarnation, the number of the first signal, how many signals, and the signals
abbrev pub batch_of : (incarnation first : ℕ) → List Signal → List ℕ
batch_of incarnation first signals =
    BATCH_KIND ∷ big_bytes 4 incarnation ++ big_bytes 8 first ++ length signals ∷ flat_map signal_bytes signals

-- the body is a Batch of these frames
pub record IsBatch (body : List ℕ) (frames : List Frame) : Type 0 where
  pub incarnation : ℕ
  pub first : ℕ
  pub signals : List Signal
  pub several : LEAST_SIGNALS ≤ length signals
  pub few : length signals ≤ MOST_SIGNALS
  pub incarnation_fits : incarnation < 2 ^ 32
  pub numbers_fit : first + length signals ≤ 2 ^ 64
  pub are_signals : AllByRecursion IsSignal signals
  pub carries : frames ≡ numbered incarnation first signals
  pub is_body : body ≡ batch_of incarnation first signals
