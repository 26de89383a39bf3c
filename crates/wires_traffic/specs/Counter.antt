-- What is counted of one way between a node and one peer.
use Rattle.std.specs.Prelude.{ℕ, max, nat_lt, Bool, if◌then◌else◌, List, [], ◌∷◌, length, count_by, fold}
use Rattle.signal.specs.declared.frame.Frame.{Frame}
use Rattle.signal.specs.declared.frame.Frame.TheVariants as of_frame
use Rattle.signal.specs.Pieces.{pieces_of}
use Rattle.wires_traffic.specs.declared.frame_counts.FrameCounts.{FrameCounts}
use Rattle.wires_traffic.specs.declared.kind.FrameKind.TheVariants.{Hello, Net, Ltc, Tag, Msg, Again, Ack, Refuse}
use Rattle.wires_traffic.specs.declared.traffic.Traffic.{Traffic}
use Rattle.wires_traffic.specs.Kinds.{kind_of, number_of}
use Rattle.wires_traffic.specs.Sums.{kept, no_frames, no_traffic, with_one, sum_of_traffic}

-- what went so far, and up to which number signals did
pub record Counted : Type 0 where
  pub traffic : Traffic
  pub highest : ℕ

-- nothing went so far
abbrev pub nothing_counted : Counted
nothing_counted = record { traffic = no_traffic; highest = 0 }

-- the numbers of the signals among frames
abbrev pub numbers_of : List Frame → List ℕ
numbers_of [] = []
numbers_of (of_frame.Hello hello ∷ frames) = numbers_of frames
numbers_of (of_frame.Data incarnation number signal ∷ frames) = number ∷ numbers_of frames
numbers_of (of_frame.Ack incarnation last_taken ∷ frames) = numbers_of frames
numbers_of (of_frame.Refuse incarnation refusal ∷ frames) = numbers_of frames

-- up to which number signals went behind these frames, where they did up to this one before
abbrev pub highest_after : (before : ℕ) → List Frame → ℕ
highest_after before frames = fold max before (numbers_of frames)

-- how many of the pieces in which these frames are written have two signals or more, and so are Batches
abbrev pub batches_in : List Frame → ℕ
batches_in frames = count_by (λ piece. nat_lt 1 (length piece)) (pieces_of frames)

-- these frames, counted by kind, where the signals up to a number went before
abbrev pub counts_of : (before : ℕ) → List Frame → FrameCounts
counts_of before frames = record {
  hello = kept (number_of Hello before frames);
  net = kept (number_of Net before frames);
  ltc = kept (number_of Ltc before frames);
  tag = kept (number_of Tag before frames);
  msg = kept (number_of Msg before frames);
  again = kept (number_of Again before frames);
  ack = kept (number_of Ack before frames);
  refuse = kept (number_of Refuse before frames);
}

-- how many Batches go in one send of these frames, which are written in Batches or each by itself
abbrev pub batches_sent : List Frame → (in_batches : Bool) → ℕ
batches_sent frames in_batches = if in_batches then kept (batches_in frames) else 0

-- one send of these frames, as so many bytes
abbrev pub one_send : (before : ℕ) → List Frame → (bytes : ℕ) → (in_batches : Bool) → Traffic
one_send before frames bytes in_batches = record {
  frames = counts_of before frames;
  batches = batches_sent frames in_batches;
  bytes = bytes;
  calls = 1;
}

-- one read of so many bytes
abbrev pub one_read : (bytes : ℕ) → Traffic
one_read bytes = record { frames = no_frames; batches = 0; bytes = bytes; calls = 1 }

-- with one send more
abbrev pub with_send : Counted → List Frame → (bytes : ℕ) → (in_batches : Bool) → Counted
with_send counted frames bytes in_batches = record {
  traffic = sum_of_traffic counted.traffic (one_send counted.highest frames bytes in_batches);
  highest = highest_after counted.highest frames;
}

-- with one read more
abbrev pub with_read : Counted → (bytes : ℕ) → Counted
with_read counted bytes = record counted { traffic = sum_of_traffic counted.traffic (one_read bytes) }

-- with one frame more that came
abbrev pub with_frame : Counted → Frame → Counted
with_frame counted frame = record {
  traffic = record counted.traffic { frames = with_one (kind_of counted.highest frame) counted.traffic.frames };
  highest = highest_after counted.highest (frame ∷ []);
}
