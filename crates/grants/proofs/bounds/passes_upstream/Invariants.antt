use Rattle.std.proofs.Common.{◌≡◌, take}
use Rattle.tag.specs.LogicalTime.{is_before, forever}
use Rattle.protocol.specs.FederateRecords.{federate_record_at}
use Rattle.grants.specs.Bounds.{first_upstream}
use Rattle.grants.proofs.bounds.passes_upstream.Given as goal

abbrev pub invariant-loop-from : goal.invariant-loop-from
invariant-loop-from l = is_before l.tag (first_upstream (federate_record_at l.federate_records) (take l.from-index l.upstream)) ≡ is_before l.tag forever
