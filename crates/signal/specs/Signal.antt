-- A signal as bytes: its kind, and then its fields. All numbers have their highest byte first.
use Rattle.std.specs.Prelude.{ℕ, ◌^◌, ◌<◌, List, ◌++◌, ◌∷◌, nat_lt, if◌then◌else◌, FitsSigned}
use Rattle.std.specs.Int.{w64, cast_unsigned}
use Rattle.byteorder.specs.Endian.{big_bytes}
use Rattle.tag.specs.LogicalTime.{LogicalTime, IsLogicalTime, IsFinite, forever}
use Rattle.signal.specs.declared.wire.TheConstants.{NET_KIND, LTC_KIND, TAG_KIND, MSG_KIND, FOREVER_TIME}
use Rattle.signal.specs.declared.wire.TheConstants.{FOREVER_MICROSTEP}
use Rattle.signal.specs.declared.signal.Signal.{Signal}
use Rattle.signal.specs.declared.signal.Signal.TheVariants.{Net, Ltc, Tag, Msg}

-- a time and a microstep in twelve bytes
abbrev pub tag_number_bytes : ℕ → ℕ → List ℕ
tag_number_bytes time microstep = big_bytes 8 time ++ big_bytes 4 microstep

-- a tag is its time and its microstep; FOREVER is twelve bytes ff
abbrev pub tag_bytes : LogicalTime → List ℕ
tag_bytes g =
    if nat_lt g.time forever.time then tag_number_bytes g.time g.microstep
    else tag_number_bytes FOREVER_TIME FOREVER_MICROSTEP

abbrev pub signal_bytes : Signal → List ℕ
signal_bytes (Net g) = NET_KIND ∷ tag_bytes g
signal_bytes (Ltc g) = LTC_KIND ∷ tag_bytes g
signal_bytes (Tag g) = TAG_KIND ∷ tag_bytes g
signal_bytes (Msg connection g value) =
    MSG_KIND ∷ big_bytes 2 connection ++ tag_bytes g ++ big_bytes 8 (cast_unsigned w64 value)

-- what has a spelling: every signal of the program
abbrev pub IsSignal : Signal → Type 0
IsSignal (Net g) = IsLogicalTime g
IsSignal (Ltc g) = IsFinite g
IsSignal (Tag g) = IsFinite g
IsSignal (Msg connection g value) = (connection < 2 ^ 16) × IsFinite g × FitsSigned w64 value
