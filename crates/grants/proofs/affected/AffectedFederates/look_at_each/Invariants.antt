use Rattle.std.proofs.Common.{◌≡◌, length, take}
use Rattle.protocol.specs.Grant.{is_eligible}
use Rattle.protocol.specs.FederateRecords.{federate_record_at}
use Rattle.grants.specs.Wiring.{least_by, network_by}
use Rattle.grants.specs.Looks.{counted}
use Rattle.grants.specs.Invariant.{flags_after}
use Rattle.grants.proofs.affected.AffectedFederates.look_at_each.Given as goal

abbrev pub invariant-loop-federate : goal.invariant-loop-federate
invariant-loop-federate l = record {
  flags : length l.self.eligible ≡ l.wiring.federates;
  eligible : l.self.eligible ≡
      flags_after (is_eligible (network_by l.wiring) (least_by l.wiring) (federate_record_at l.federate_records)) (take l.federate-index l.federates) l.initial.self.eligible;
  looks : l.self.looks ≡ counted l.initial.self.looks l.federate-index;
}
