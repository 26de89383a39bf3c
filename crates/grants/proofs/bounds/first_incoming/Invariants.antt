use Rattle.std.proofs.Common.{◌≡◌, take}
use Rattle.protocol.specs.FederateRecords.{federate_record_at}
use Rattle.grants.specs.Bounds.{first_incoming}
use Rattle.grants.proofs.bounds.first_incoming.Given as goal

abbrev pub invariant-loop-connection : goal.invariant-loop-connection
invariant-loop-connection l = l.first ≡ first_incoming (federate_record_at l.federate_records) (take l.connection-index l.incoming)
