-- What the first frame of a connection says of its first bytes.
use Rattle.std.proofs.Common.{ℕ, List, ◌∷◌, ◌++◌, IsTrue}
use Rattle.signal.specs.declared.frame.Frame.{Frame}
use Rattle.signal.specs.Stream.{Stream, start, fed, Comes, goes_on, begins, GivesFrame}
use Rattle.wires_hosts.specs.Hello.{is_hello_of, BeginsWithHello}

-- the first frame that comes of some bytes is spelled at their front
comes_first : (federate : ℕ) (bytes : List ℕ) (frame : Frame) (new : Stream) → Comes (fed start bytes) frame new
    → IsTrue (is_hello_of federate frame) → BeginsWithHello federate bytes
comes_first federate bytes frame new (goes_on more rest version) own = absurd cc
comes_first federate bytes frame new (begins front spelling none splits version) own = record {
  hello = frame;
  is_own = own;
  others = new.begun;
  spelling = front;
  spells = spelling;
  rest = new.rest;
  splits = splits;
}

-- a connection begins with a Hello of this federate, where its first frame is one
pub begins_by : (federate : ℕ) (bytes : List ℕ) (frame : Frame) (new : Stream) → GivesFrame (fed start bytes) frame new
    → IsTrue (is_hello_of federate frame) → BeginsWithHello federate bytes
begins_by federate bytes frame new gives own = comes_first federate bytes frame new gives.comes own
