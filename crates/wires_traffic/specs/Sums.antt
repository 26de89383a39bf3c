-- Counts by kind, and sums of counts.
use Rattle.std.specs.Prelude.{ℕ, ◌+◌, ◌-◌, ◌^◌, min}
use Rattle.wires_traffic.specs.declared.counts.Counts.{Counts}
use Rattle.wires_traffic.specs.declared.frame_counts.FrameCounts.{FrameCounts}
use Rattle.wires_traffic.specs.declared.kind.FrameKind.{FrameKind}
use Rattle.wires_traffic.specs.declared.kind.FrameKind.TheVariants.{Hello, Net, Ltc, Tag, Msg, Again, Ack, Refuse}
use Rattle.wires_traffic.specs.declared.traffic.Traffic.{Traffic}

-- a count stops at the greatest number that there is room for
abbrev pub kept : ℕ → ℕ
kept count = min count (2 ^ 64 - 1)

-- the count of a kind
abbrev pub count_of : FrameKind → FrameCounts → ℕ
count_of Hello counts = counts.hello
count_of Net counts = counts.net
count_of Ltc counts = counts.ltc
count_of Tag counts = counts.tag
count_of Msg counts = counts.msg
count_of Again counts = counts.again
count_of Ack counts = counts.ack
count_of Refuse counts = counts.refuse

-- no frames
abbrev pub no_frames : FrameCounts
no_frames = record { hello = 0; net = 0; ltc = 0; tag = 0; msg = 0; again = 0; ack = 0; refuse = 0 }

-- one frame more, of this kind
abbrev pub with_one : FrameKind → FrameCounts → FrameCounts
with_one Hello counts = record counts { hello = kept (counts.hello + 1) }
with_one Net counts = record counts { net = kept (counts.net + 1) }
with_one Ltc counts = record counts { ltc = kept (counts.ltc + 1) }
with_one Tag counts = record counts { tag = kept (counts.tag + 1) }
with_one Msg counts = record counts { msg = kept (counts.msg + 1) }
with_one Again counts = record counts { again = kept (counts.again + 1) }
with_one Ack counts = record counts { ack = kept (counts.ack + 1) }
with_one Refuse counts = record counts { refuse = kept (counts.refuse + 1) }

-- the frames of both
abbrev pub sum_of_frames : FrameCounts → FrameCounts → FrameCounts
sum_of_frames a b = record {
  hello = kept (a.hello + b.hello);
  net = kept (a.net + b.net);
  ltc = kept (a.ltc + b.ltc);
  tag = kept (a.tag + b.tag);
  msg = kept (a.msg + b.msg);
  again = kept (a.again + b.again);
  ack = kept (a.ack + b.ack);
  refuse = kept (a.refuse + b.refuse);
}

-- nothing went
abbrev pub no_traffic : Traffic
no_traffic = record { frames = no_frames; batches = 0; bytes = 0; calls = 0 }

-- what went in both
abbrev pub sum_of_traffic : Traffic → Traffic → Traffic
sum_of_traffic a b = record {
  frames = sum_of_frames a.frames b.frames;
  batches = kept (a.batches + b.batches);
  bytes = kept (a.bytes + b.bytes);
  calls = kept (a.calls + b.calls);
}

-- of a worker that neither sent nor read
abbrev pub no_counts : Counts
no_counts = record { sent = no_traffic; received = no_traffic; connections = 0 }

-- of a worker that sent this
abbrev pub of_traffic : Traffic → Counts
of_traffic sent = record { sent = sent; received = no_traffic; connections = 0 }

-- of both workers
abbrev pub sum_of_counts : Counts → Counts → Counts
sum_of_counts a b = record {
  sent = sum_of_traffic a.sent b.sent;
  received = sum_of_traffic a.received b.received;
  connections = kept (a.connections + b.connections);
}
