-- A reader's stream, by its fields.
use Rattle.std.specs.Prelude.{ℕ, ◌≤◌, List, drop, vec_len}
use Rattle.signal.specs.declared.reader.FrameReader.TheInside.{Inside}
use Rattle.signal.specs.Begun.{frames_at, HasSignals}
use Rattle.signal.specs.Stream.{Stream, IsStream}

-- the bytes of the buffer that weren't read yet
abbrev pub unread : Inside → List ℕ
unread r = drop r.position r.buffer.items

-- the signals that are still to be given stand before the rest
abbrev pub stream_of : Inside → Stream
stream_of r = record {
  fault = r.fault;
  begun = frames_at r.begun (unread r);
  rest = drop r.begun.size (unread r);
  version = r.version;
}

-- what the fields of every reader keep
pub record IsReader (r : Inside) : Type 0 where
  pub within : r.position ≤ vec_len r.buffer
  pub has_signals : HasSignals r.begun (unread r)
  pub is_stream : IsStream (stream_of r)
