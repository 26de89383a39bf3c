-- The wiring of a network: its reactors, its connections and its stop, and nothing of what the reactors do.
use Rattle.std.specs.Prelude.{ℕ, ◌<◌, List, [], All, None}
use Rattle.tag.specs.LogicalTime.{LogicalTime, IsFinite}
use Rattle.network.specs.Connection.{Connection}
use Rattle.network.specs.Network.{Network}

-- a network of this wiring alone: its reactors have no slots and no ports, and do nothing
abbrev pub wiring : ℕ → List Connection → LogicalTime → Network
wiring reactors connections stop =
    record {
      reactors = reactors;
      slots = λ reactor. 0;
      ports = λ reactor. 0;
      connections = connections;
      rank = λ reactor. 0;
      stop = stop;
      external = [];
      initial = λ reactor. [];
      effect = λ reactor states inputs. record { states = []; outputs = λ port. None; schedulings = [] };
    }

-- a network's wiring, by itself
abbrev pub wiring_of : Network → Network
wiring_of n = wiring n.reactors n.connections n.stop

-- a connection between reactors that are there
pub record IsBetween (reactors : ℕ) (c : Connection) : Type 0 where
  pub source : c.source < reactors
  pub target : c.target < reactors

-- each connection is between reactors that are there, and stop isn't FOREVER
pub record IsWired (n : Network) : Type 0 where
  pub stop : IsFinite n.stop
  pub connections : All (IsBetween n.reactors) n.connections
