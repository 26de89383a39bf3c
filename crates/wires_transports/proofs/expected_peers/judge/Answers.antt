use Rattle.std.proofs.Common.{refl}
use Rattle.wires_transports.specs.ExpectedPeers.{federate, unclear, stranger}
use Rattle.wires_transports.proofs.expected_peers.judge.Goals as goal

pub returns-in-Some : goal.returns-in-Some
returns-in-Some c = federate c.in-Some.federate c.in-Some.ensures.found

pub returns-in-Some-place_of : goal.returns-in-Some-place_of
returns-in-Some-place_of c = unclear _ (c.in-None.ensures.none refl) c.in-Some-place_of.ensures.found

pub returns-in-None-place_of : goal.returns-in-None-place_of
returns-in-None-place_of c = stranger (c.in-None.ensures.none refl) (c.in-None-place_of.ensures.none refl)
