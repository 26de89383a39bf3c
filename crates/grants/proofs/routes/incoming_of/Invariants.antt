use Rattle.std.proofs.Common.{◌≡◌, take}
use Rattle.grants.specs.Routes.{incoming_of}
use Rattle.grants.proofs.routes.incoming_of.Given as goal

abbrev pub invariant-loop-connection : goal.invariant-loop-connection
invariant-loop-connection l = l.incoming.items ≡ incoming_of (take l.connection-index l.connections) l.federate
