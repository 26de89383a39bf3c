use Rattle.std.proofs.Common.{◌≡◌, take}
use Rattle.grants.specs.Routes.{outgoing_of}
use Rattle.grants.proofs.routes.outgoing_of.Given as goal

abbrev pub invariant-loop-connection : goal.invariant-loop-connection
invariant-loop-connection l = l.outgoing.items ≡ outgoing_of (take l.connection-index l.connections) l.federate
