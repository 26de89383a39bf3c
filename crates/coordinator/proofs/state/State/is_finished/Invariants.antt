use Rattle.std.proofs.Common.{◌≡◌, ℕ, ◌<◌, true}
use Rattle.std.specs.Prelude.{◌&&◌}
use Rattle.tag.specs.LogicalTime.{forever, is_same}
use Rattle.protocol.specs.FederateRecords.{federate_record_at}
use Rattle.coordinator.proofs.state.State.is_finished.Given as goal

-- the federates so far have finished
abbrev pub invariant-loop-federate : goal.invariant-loop-federate
invariant-loop-federate l =
    (j : ℕ) → j < l.federate → ((federate_record_at l.self.table.federate_records j).announced && is_same (federate_record_at l.self.table.federate_records j).next forever) ≡ true
