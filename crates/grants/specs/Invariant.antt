-- What a table keeps: of each federate its record, and whether it is eligible.
use Rattle.std.specs.Prelude.{◌≡◌, ℕ, ◌+◌, ◌<◌, Bool, false, List, [], ◌∷◌, length, slice_index_or, slice_set}
use Rattle.std.specs.Prelude.{if◌then◌else◌}
use Rattle.std.specs.List.{fold}
use Rattle.protocol.specs.FederateRecord.{FederateRecord}
use Rattle.grants.specs.Wiring.{Wiring}
use Rattle.grants.specs.Records.{is_eligible_by}

-- a record for each federate, and a flag that says whether it is eligible
pub record IsKept (w : Wiring) (federate_records : List FederateRecord) (flags : List Bool) : Type 0 where
  pub federate_record_count : length federate_records ≡ w.federates
  pub flag_count : length flags ≡ w.federates
  pub each : (j : ℕ) → j < w.federates → slice_index_or flags j false ≡ is_eligible_by w federate_records j

-- how many flags are set
abbrev pub set_count : List Bool → ℕ
set_count [] = 0
set_count (flag ∷ flags) = (if flag then 1 else 0) + set_count flags

-- a flag of each federate, and how often one was looked at
pub record Looked : Type 0 where
  pub eligible : List Bool
  pub looks : ℕ

-- the flags after a look at each of these federates
abbrev pub flags_after : (ℕ → Bool) → List ℕ → List Bool → List Bool
flags_after test federates flags = fold (λ fs j. slice_set fs j (test j)) flags federates
