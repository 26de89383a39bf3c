-- What a coordinator's table holds.
use Rattle.std.specs.Prelude.{◌≡◌, ℕ, Bool, List, length, slice_set}
use Rattle.plan.specs.declared.draft.Draft.{Draft}
use Rattle.plan.specs.Federation.{federate_count}
use Rattle.protocol.specs.FederateRecord.{FederateRecord, initial_federate_record}
use Rattle.protocol.specs.FederateRecords.{federate_record_at, federate_records_listed}
use Rattle.protocol.specs.Grant.{is_eligible}
use Rattle.grants.specs.Wiring.{Wiring, IsWiring, federation_wiring, network_by, least_by}

-- the wiring, each federate's record by number, and how often a federate was looked at
pub record Records : Type 0 where
  pub wiring : Wiring
  pub federate_records : List FederateRecord
  pub looks : ℕ

-- before any signal came
abbrev pub initial_records : Draft → Records
initial_records d =
    record {
      wiring = federation_wiring d;
      federate_records = federate_records_listed (federate_count d)
          (λ j. initial_federate_record);
      looks = 0;
    }

-- with another record of federate i
abbrev pub with_federate_record : Records → ℕ → FederateRecord → Records
with_federate_record r i mine = record r { federate_records = slice_set r.federate_records i mine }

-- with federate i's record changed so
abbrev pub changed_at : Records → ℕ → (FederateRecord → FederateRecord) → Records
changed_at r i change = with_federate_record r i (change (federate_record_at r.federate_records i))

-- with another count of looks
abbrev pub with_looks : Records → ℕ → Records
with_looks r looks = record r { looks = looks }

-- whether federate j is eligible where all stand so, by the table of least delays
abbrev pub is_eligible_by : Wiring → List FederateRecord → ℕ → Bool
is_eligible_by w federate_records j = is_eligible (network_by w) (least_by w) (federate_record_at federate_records) j

abbrev pub is_eligible_in : Records → ℕ → Bool
is_eligible_in r j = is_eligible_by r.wiring r.federate_records j

-- a record for each federate, and wiring that is sound
pub record AreRecords (r : Records) : Type 0 where
  pub count : length r.federate_records ≡ r.wiring.federates
  pub wiring : IsWiring r.wiring
