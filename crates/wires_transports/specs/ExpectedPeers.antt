-- Whose a connection is, by what the dialers of a run are at.
use Rattle.std.specs.Prelude.{◌≡◌, ◌≢◌, ℕ, List, slice_get, slice_set, Some, All}
use Rattle.std.specs.declared.net.socket_addr.SocketAddr.{SocketAddr}
use Rattle.wires_transports.specs.declared.expected_peers.DialState.{DialState}
use Rattle.wires_transports.specs.declared.expected_peers.DialState.TheVariants.{Idle, Connecting, Connected}
use Rattle.wires_transports.specs.declared.expected_peers.Origin.{Origin}
use Rattle.wires_transports.specs.declared.expected_peers.Origin.TheVariants.{Federate, Unclear, Stranger}

-- a connection from this address, where the federates' dialers are at this: whose it is, and what they are at
-- afterwards. A federate's is expected no more, so it is let in once.
pub data IsJudged (peer : SocketAddr) (states : List DialState) : Origin → List DialState → Type 0 where
  federate : (j : ℕ) → slice_get states j ≡ Some (Connected peer)
      → IsJudged peer states (Federate j) (slice_set states j Idle)
  unclear : (j : ℕ) → All (λ state. state ≢ Connected peer) states → slice_get states j ≡ Some Connecting
      → IsJudged peer states Unclear states
  stranger : All (λ state. state ≢ Connected peer) states → All (λ state. state ≢ Connecting) states
      → IsJudged peer states Stranger states
