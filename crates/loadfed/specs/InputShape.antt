-- What an input file says, and what stands against it, stage by stage.
use Rattle.std.specs.Prelude.{◌≡◌, ℕ, ◌≤◌, ◌⊎◌, List, [], ◌∷◌, length, codes, All, AllPairs, IsSome, Result}
use Rattle.std.specs.Prelude.{MatchResult}
use Rattle.toml.specs.Data.{Members}
use Rattle.plan.specs.declared.draft.Draft.{Draft}
use Rattle.plan.specs.declared.input.Input.{Input}
use Rattle.plan.specs.External.{found_action, AreForDifferentActions, AreInputsOf}
use Rattle.plan.specs.declared.input.TheConstants.{MOST_INPUTS}
use Rattle.loadfed_tables.specs.declared.fault.TableFault.{TableFault}
use Rattle.loadfed.specs.declared.fault.LoadFault.{LoadFault}
use Rattle.loadfed.specs.declared.fault.LoadFault.TheVariants.{UnknownAction, RepeatedInput, OverLimit, Memory}
use Rattle.loadfed_tables.specs.Tables.{HasOnly, SaysText, SaysNumber, SaysDuration, SaysMicrostep, SaysEach}
use Rattle.loadfed_tables.specs.TableFaults.{IsWrongAt, HasUnknownKey}
use Rattle.loadfed.specs.ShapeFaults.{HasTablesFault}
use Rattle.loadfed_tables.specs.Documents.{IsDocument}
use Rattle.loadfed.specs.declared.recorded.TheConstants.{MOST_INPUT_BYTES}
use Rattle.loadfed.specs.Loaded.{IsTooLong, IsNoDocument, HasFileFault}

-- the keys of an input file
abbrev pub input_file_keys : List (List ℕ)
input_file_keys = codes "input" ∷ []

-- the keys of a recorded input
abbrev pub input_keys : List (List ℕ)
input_keys = codes "federate" ∷ codes "action" ∷ codes "time" ∷ codes "micro" ∷ codes "value" ∷ []

-- a recorded input; federate and action are any texts
pub record SaysInput (members : Members) (i : Input) : Type 0 where
  pub keys : HasOnly input_keys members
  pub federate_is : SaysText (codes "federate") members i.federate
  pub action_is : SaysText (codes "action") members i.action
  pub time_is : SaysDuration (codes "time") members i.tag.time
  pub microstep_is : SaysMicrostep (codes "micro") members i.tag.microstep
  pub value_is : SaysNumber (codes "value") members i.value

-- recorded inputs, in their order
pub record SaysInputs (members : Members) (inputs : List Input) : Type 0 where
  pub keys : HasOnly input_file_keys members
  pub inputs_are : SaysEach SaysInput (codes "input") members inputs

-- what is wrong with the shape of a recorded input, and at which key
abbrev pub HasInputFault : Members → TableFault → Type 0
HasInputFault members fault =
    HasUnknownKey input_keys members fault
    ⊎ (IsWrongAt (codes "federate") (SaysText (codes "federate") members) fault
    ⊎ (IsWrongAt (codes "action") (SaysText (codes "action") members) fault
    ⊎ (IsWrongAt (codes "time") (SaysDuration (codes "time") members) fault
    ⊎ (IsWrongAt (codes "micro") (SaysMicrostep (codes "micro") members) fault
    ⊎ IsWrongAt (codes "value") (SaysNumber (codes "value") members) fault))))

-- what is wrong with the shape of an input file, and at which key
abbrev pub HasInputsFault : Members → TableFault → Type 0
HasInputsFault members fault =
    HasUnknownKey input_file_keys members fault ⊎ HasTablesFault HasInputFault (codes "input") members fault

-- a file that isn't too long records these inputs
pub record SaysInputFile (bytes : List ℕ) (inputs : List Input) : Type 0 where
  pub few : length bytes ≤ MOST_INPUT_BYTES
  pub file : Members
  pub document : IsDocument bytes file
  pub says : SaysInputs file inputs

-- each input is for a physical action that is there
abbrev pub AreKnown : Draft → List Input → Type 0
AreKnown d inputs = All (λ i. IsSome (found_action d.federates i)) inputs

-- what stands against recorded inputs; each says that those before it don't
pub data IsFaultOfInputs (d : Draft) (inputs : List Input) (fault : LoadFault) : Type 0 where
  -- an input is for an action that isn't there
  unknown_action : fault ≡ UnknownAction → ¬ (AreKnown d inputs) → IsFaultOfInputs d inputs fault
  -- one action has two inputs at one tag
  repeated_input : fault ≡ RepeatedInput → AreKnown d inputs → ¬ (AllPairs AreForDifferentActions inputs)
      → IsFaultOfInputs d inputs fault
  -- there are more inputs than there may be
  too_many : fault ≡ OverLimit → AreKnown d inputs → AllPairs AreForDifferentActions inputs
      → ¬ (length inputs ≤ MOST_INPUTS)
      → IsFaultOfInputs d inputs fault

-- the recorded inputs aren't inputs of the federation
pub record HasRecordedFault (d : Draft) (bytes : List ℕ) (fault : LoadFault) : Type 0 where
  pub inputs : List Input
  pub declared : SaysInputFile bytes inputs
  pub refused : IsFaultOfInputs d inputs fault

-- what stands against an input file; each stage says that those before it found no fault
pub data HasInputFileFault (d : Draft) (bytes : List ℕ) (fault : LoadFault) : Type 0 where
  -- there was no memory for a file that isn't too long
  out_of_memory : fault ≡ Memory → length bytes ≤ MOST_INPUT_BYTES → HasInputFileFault d bytes fault
  -- it has more bytes than it may have
  too_long : IsTooLong MOST_INPUT_BYTES bytes fault → HasInputFileFault d bytes fault
  -- it is no TOML document
  no_document : IsNoDocument MOST_INPUT_BYTES bytes fault → HasInputFileFault d bytes fault
  -- its tables don't record inputs
  wrong_shape : HasFileFault HasInputsFault MOST_INPUT_BYTES bytes fault → HasInputFileFault d bytes fault
  -- the inputs that it records aren't inputs of the federation
  no_inputs : HasRecordedFault d bytes fault → HasInputFileFault d bytes fault

-- what loading an input file answers: the inputs of the federation that it records, or why it records none
abbrev pub IsInputLoading : Draft → List ℕ → Result (List Input) LoadFault → Type 0
IsInputLoading d bytes result =
    MatchResult result (λ inputs. SaysInputFile bytes inputs × AreInputsOf d inputs) (HasInputFileFault d bytes)
