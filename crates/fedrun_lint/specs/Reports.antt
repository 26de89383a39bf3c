-- What a report says of a federation file and of a file of recorded inputs.
use Rattle.std.specs.Prelude.{◌≡◌, ◌≢◌, ℕ, ◌≤◌, List, length, Option, None, Some, MatchOption}
use Rattle.plan.specs.declared.draft.Draft.{Draft}
use Rattle.plan.specs.declared.input.Input.{Input}
use Rattle.plan.specs.declared.input.TheConstants.{MOST_INPUTS}
use Rattle.plan.specs.External.{AreInputsOf}
use Rattle.reactor_program.specs.Behaviour.{Behaviour}
use Rattle.loadfed.specs.declared.fault.LoadFault.{LoadFault}
use Rattle.loadfed.specs.declared.fault.LoadFault.TheVariants.{OverLimit, Memory}
use Rattle.loadfed.specs.declared.recorded.TheConstants.{MOST_INPUT_BYTES}
use Rattle.loadfed.specs.Loaded.{IsFederationFile, HasLoadFault, IsTooLong, IsNoDocument, HasFileFault}
use Rattle.loadfed.specs.InputShape.{SaysInputFile, HasInputsFault, HasInputFileFault}
use Rattle.fedrun_lint_findings.specs.declared.refusal.Refusal.{Refusal}
use Rattle.fedrun_lint.specs.declared.report.Report.{Report}

-- the file is a federation
abbrev pub IsTaken : List ℕ → Type 0
IsTaken bytes = (d : Draft) × (programs : List Behaviour) × IsFederationFile bytes d programs

-- there is a refusal, and its first fault is this one
abbrev pub IsFirst : LoadFault → Option Refusal → Type 0
IsFirst fault None = ⊥
IsFirst fault (Some refusal) = refusal.first.fault ≡ fault

-- the file is no federation, and the first fault of its refusal is what loading it answers
pub record IsRefused (bytes : List ℕ) (refusal : Refusal) : Type 0 where
  pub first : HasLoadFault bytes refusal.first.fault
  pub not_memory : refusal.first.fault ≢ Memory
  pub none : (d : Draft) (programs : List Behaviour) → ¬ (IsFederationFile bytes d programs)

-- the file records inputs of the federation
abbrev pub AreRecorded : Draft → List ℕ → Type 0
AreRecorded d bytes = (inputs : List Input) × SaysInputFile bytes inputs × AreInputsOf d inputs

-- the file records no inputs of the federation, and the first fault of its refusal is what loading it answers
pub record AreRefused (d : Draft) (bytes : List ℕ) (refusal : Refusal) : Type 0 where
  pub first : HasInputFileFault d bytes refusal.first.fault
  pub not_memory : refusal.first.fault ≢ Memory
  pub none : (inputs : List Input) → SaysInputFile bytes inputs → ¬ (AreInputsOf d inputs)

-- a file of recorded inputs is refused exactly where it records none of the federation
abbrev pub AgreesOnInputs : Draft → List ℕ → Option Refusal → Type 0
AgreesOnInputs d bytes None = AreRecorded d bytes
AgreesOnInputs d bytes (Some refusal) = AreRefused d bytes refusal

-- the federation file is taken, with these inputs or without
pub record IsReportOfTaken (federation inputs : List ℕ) (refusal : Option Refusal) : Type 0 where
  pub draft : Draft
  pub programs : List Behaviour
  pub taken : IsFederationFile federation draft programs
  pub agrees : AgreesOnInputs draft inputs refusal

-- the file records inputs of no federation
abbrev pub RecordsNone : List ℕ → Type 0
RecordsNone bytes = (d : Draft) (inputs : List Input) → SaysInputFile bytes inputs → ¬ (AreInputsOf d inputs)

-- the file records inputs, whatever federation they are of
pub record RecordsSome (bytes : List ℕ) : Type 0 where
  pub inputs : List Input
  pub says : SaysInputFile bytes inputs

-- what stands against a file of recorded inputs, whatever federation they are of
pub data HasShapeFault (bytes : List ℕ) (fault : LoadFault) : Type 0 where
  -- it has more bytes than it may have
  of_length : IsTooLong MOST_INPUT_BYTES bytes fault → HasShapeFault bytes fault
  -- it is no TOML document
  of_text : IsNoDocument MOST_INPUT_BYTES bytes fault → HasShapeFault bytes fault
  -- its tables don't record inputs
  of_tables : HasFileFault HasInputsFault MOST_INPUT_BYTES bytes fault → HasShapeFault bytes fault
  -- it records more inputs than there may be
  of_count : fault ≡ OverLimit → (inputs : List Input) → SaysInputFile bytes inputs
      → ¬ (length inputs ≤ MOST_INPUTS) → HasShapeFault bytes fault

-- the file of recorded inputs is refused for its shape, and the first fault of its refusal is what loading it answers
pub record IsRefusedForShape (bytes : List ℕ) (refusal : Refusal) : Type 0 where
  pub first : HasShapeFault bytes refusal.first.fault
  pub not_memory : refusal.first.fault ≢ Memory
  pub none : RecordsNone bytes

-- of a file of recorded inputs whose federation isn't known, the shape is looked at: one that doesn't record inputs is
-- refused, and one that does only where they are more than there may be
abbrev pub AgreesOnShape : List ℕ → Option Refusal → Type 0
AgreesOnShape bytes None = RecordsSome bytes
AgreesOnShape bytes (Some refusal) = IsRefusedForShape bytes refusal

-- the federation file is refused so; of the recorded inputs the shape is looked at
pub record IsReportOfRefused (federation inputs : List ℕ) (others : Option Refusal) (refusal : Refusal) : Type 0 where
  pub refused : IsRefused federation refusal
  pub agrees : AgreesOnShape inputs others

-- a report: a federation file is refused exactly where it is no federation, recorded inputs of one that is taken exactly
-- where they aren't its, and those of one that isn't for their shape
abbrev pub IsReport : List ℕ → List ℕ → Report → Type 0
IsReport federation inputs report =
    MatchOption report.federation (IsReportOfTaken federation inputs report.inputs)
    (IsReportOfRefused federation inputs report.inputs)
