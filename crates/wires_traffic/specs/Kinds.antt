-- What each frame is counted as, and how many there are of a kind.
use Rattle.std.specs.Prelude.{ℕ, if◌then◌else◌, nat_le, nat_eq, List, length}
use Rattle.std.specs.List.{filter}
use Rattle.signal.specs.declared.signal.Signal.{Signal}
use Rattle.signal.specs.declared.signal.Signal.TheVariants as of_signal
use Rattle.signal.specs.declared.frame.Frame.{Frame}
use Rattle.signal.specs.declared.frame.Frame.TheVariants as of_frame
use Rattle.wires_traffic.specs.declared.kind.FrameKind.{FrameKind}
use Rattle.wires_traffic.specs.declared.kind.FrameKind.TheVariants.{Hello, Net, Ltc, Tag, Msg, Again, Ack, Refuse}

-- a signal that goes for the first time is counted as what it is
abbrev pub kind_of_signal : Signal → FrameKind
kind_of_signal (of_signal.Net tag) = Net
kind_of_signal (of_signal.Ltc tag) = Ltc
kind_of_signal (of_signal.Tag tag) = Tag
kind_of_signal (of_signal.Msg connection tag value) = Msg

-- a frame is counted as what it is, where the signals up to a number went before
abbrev pub kind_of : (before : ℕ) → Frame → FrameKind
kind_of before (of_frame.Hello hello) = Hello
kind_of before (of_frame.Data incarnation number signal) =
    if nat_le number before then Again else kind_of_signal signal
kind_of before (of_frame.Ack incarnation last_taken) = Ack
kind_of before (of_frame.Refuse incarnation refusal) = Refuse

-- the kinds in order
abbrev pub place_of : FrameKind → ℕ
place_of Hello = 0
place_of Net = 1
place_of Ltc = 2
place_of Tag = 3
place_of Msg = 4
place_of Again = 5
place_of Ack = 6
place_of Refuse = 7

-- how many of these frames are counted as this kind, where the signals up to a number went before
abbrev pub number_of : FrameKind → (before : ℕ) → List Frame → ℕ
number_of kind before frames =
    length (filter (λ frame. nat_eq (place_of (kind_of before frame)) (place_of kind)) frames)
