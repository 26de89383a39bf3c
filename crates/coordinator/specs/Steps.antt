-- What is kept between steps, and what a step comes to.
use Rattle.std.specs.Prelude.{◌≡◌, ◌≢◌, ℕ, ◌<◌, Bool, false, List, Result, Err}
use Rattle.signal.specs.declared.signal.Signal.{Signal}
use Rattle.protocol.specs.Outcome.{Outcome, with_made}
use Rattle.protocol.specs.FederateRecord.{FederateRecord}
use Rattle.protocol.specs.FederateRecords.{Listed, federate_record_at, coordinator_accepts_in}
use Rattle.protocol.specs.KeptAlone.{IsFederateRecord}
use Rattle.node.specs.declared.fault.NodeFault.{NodeFault}
use Rattle.node.specs.declared.fault.NodeFault.TheVariants as fault
use Rattle.node.specs.Mail.{Mail}
use Rattle.node.specs.Core.{Made, IsCall, Allows}
use Rattle.plan.specs.declared.draft.Draft.{Draft}
use Rattle.grants.specs.Wiring.{network_by, federation_wiring}
use Rattle.grants.specs.Records.{Records, is_eligible_in}
use Rattle.coordinator.specs.Sending.{rule_by}

-- between steps each record is of tags, and nobody is eligible
pub record IsSettled (r : Records) : Type 0 where
  pub federate_records : (j : ℕ) → IsFederateRecord (federate_record_at r.federate_records j)
  pub nobody : (j : ℕ) → j < r.wiring.federates → is_eligible_in r j ≡ false

-- the table is of this federation, and settled
pub record IsKept (d : Draft) (r : Records) : Type 0 where
  pub wiring : r.wiring ≡ federation_wiring d
  pub settled : IsSettled r

-- the records after a step, and what it sends
abbrev pub made_listed : Listed → Made (List FederateRecord)
made_listed made = record { after = made.after; sent = made.sent }

-- what the coordinator with this table does with a signal of federate i
abbrev pub taken_by : Records → ℕ → Signal → Outcome (Made (List FederateRecord))
taken_by r i signal =
    with_made made_listed (coordinator_accepts_in (network_by r.wiring) (rule_by r.wiring) r.federate_records i signal)

-- a step is what the coordinator does; or it has no memory, where it doesn't refuse, and then nothing has changed
pub record IsStep (before after : Records) (mail mail_then : Mail) (answer : Result Bool NodeFault) (i : ℕ)
    (signal : Signal) : Type 0 where
  pub wiring : after.wiring ≡ before.wiring
  pub call : answer ≢ Err fault.Memory
      → IsCall before.federate_records after.federate_records mail mail_then answer (taken_by before i signal)
  pub memory : answer ≡ Err fault.Memory
      → (after.federate_records ≡ before.federate_records) × (mail_then ≡ mail) × Allows (taken_by before i signal)
