use Rattle.std.proofs.Common.{◌≢◌, All, take}
use Rattle.wires_transports.proofs.expected_peers.place_of.Given as goal

-- none of those before is at it
abbrev pub invariant-loop-place : goal.invariant-loop-place
invariant-loop-place l = All (λ other. other ≢ l.state) (take l.place l.states)
