-- What an end takes of the frames that come to it, and what frames carry, as lists of signals.
use Rattle.std.specs.Prelude.{◌≡◌, ℕ, ◌-◌, ◌<◌, if◌then◌else◌, nat_lt, is_ok, List, [], ◌∷◌, ◌++◌, slice_get, Some}
use Rattle.signal.specs.declared.signal.Signal.{Signal}
use Rattle.signal.specs.declared.frame.Frame.{Frame}
use Rattle.signal.specs.declared.frame.Frame.TheVariants.{Hello, Data, Ack, Refuse}
use Rattle.link.specs.Image.{Image, answer_of, after_frame}

-- a Data frame of this incarnation carries the signal that was offered under its number
abbrev pub Carries : (incarnation : ℕ) → List Signal → Frame → Type 0
Carries incarnation offered (Hello _) = Unit {0}
Carries incarnation offered (Data i n signal) = i ≡ incarnation → 0 < n → slice_get offered (n - 1) ≡ Some signal
Carries incarnation offered (Ack _ _) = Unit {0}
Carries incarnation offered (Refuse _ _) = Unit {0}

-- the signal that a frame carries
abbrev pub carried_by : Frame → List Signal
carried_by (Hello _) = []
carried_by (Data _ _ signal) = signal ∷ []
carried_by (Ack _ _) = []
carried_by (Refuse _ _) = []

-- what a frame makes of an end; a refused one leaves it as it was
abbrev pub after_coming : Image → Frame → Image
after_coming i frame = if is_ok (answer_of i frame) then after_frame i frame else i

abbrev pub after_all : Image → List Frame → Image
after_all i [] = i
after_all i (frame ∷ frames) = after_all (after_coming i frame) frames

-- the signals taken of frames that come one after the other: those at which the number taken rises
abbrev pub taken_of : Image → List Frame → List Signal
taken_of i [] = []
taken_of i (frame ∷ frames) =
    (if nat_lt i.taken (after_coming i frame).taken then carried_by frame else [])
    ++ taken_of (after_coming i frame) frames
