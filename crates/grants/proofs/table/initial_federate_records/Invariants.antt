use Rattle.std.proofs.Common.{◌≡◌}
use Rattle.protocol.specs.FederateRecord.{initial_federate_record}
use Rattle.protocol.specs.FederateRecords.{federate_records_listed}
use Rattle.grants.proofs.table.initial_federate_records.Given as goal

abbrev pub invariant-loop-federate : goal.invariant-loop-federate
invariant-loop-federate l = l.federate_records.items ≡ federate_records_listed l._federate (λ j. initial_federate_record)
