-- The federation and the recorded inputs that files are. What a file holds is said where its bytes are known.
use Rattle.std.specs.Prelude.{ℕ, List, [], Option, Some, codes, if◌then◌else◌}
use Rattle.std.specs.Str.{bytes_eq}
use Rattle.fedrun_files.specs.Contents.{Contents, AreBytesOf}
use Rattle.plan.specs.declared.draft.Draft.{Draft}
use Rattle.plan.specs.declared.input.Input.{Input}
use Rattle.plan.specs.External.{AreInputsOf}
use Rattle.reactor_program.specs.Behaviour.{Behaviour}
use Rattle.reactor_programs.specs.Programs.{AreProgramsOf}
use Rattle.loadfed.specs.Loaded.{IsFederationFile}
use Rattle.loadfed.specs.InputShape.{SaysInputFile}
use Rattle.fedrun_files.specs.declared.reading.Sources.{Sources}

-- the bytes of an input file; `-` is a file without any
abbrev pub input_file : Contents → List ℕ → Option (List ℕ)
input_file contents name = if bytes_eq name (codes "-") then Some [] else contents name

-- the file is this federation with these programs
pub record IsFederation (known : Option (List ℕ)) (d : Draft) (programs : List Behaviour) : Type 0 where
  pub bytes : List ℕ
  pub bytes_are : AreBytesOf known bytes
  pub says : IsFederationFile bytes d programs
  pub programs_are : AreProgramsOf d programs

-- the file records these inputs of the federation
pub record RecordsInputs (known : Option (List ℕ)) (d : Draft) (inputs : List Input) : Type 0 where
  pub bytes : List ℕ
  pub bytes_are : AreBytesOf known bytes
  pub says : SaysInputFile bytes inputs
  pub inputs_are : AreInputsOf d inputs

-- the one file is this federation with these programs, and the other records these inputs of it
pub record AreSources (federation inputs : Option (List ℕ)) (sources : Sources) : Type 0 where
  pub federation_is : IsFederation federation sources.plan sources.programs
  pub inputs_are : RecordsInputs inputs sources.plan sources.inputs

-- of the federation and inputs that the two files are, this holds
pub record HoldsOfSources (federation inputs : Option (List ℕ)) (P : Sources → Type 0) : Type 0 where
  pub sources : Sources
  pub sources_are : AreSources federation inputs sources
  pub holds : P sources
