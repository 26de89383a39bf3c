-- What is printed of a source that is looked at. What a file holds is said where its bytes are known.
use Rattle.std.specs.Prelude.{◌≡◌, ℕ, false, List, [], Option, None, Some, ⊤}
use Rattle.fedrun_files.specs.Contents.{Contents, AreBytesOf}
use Rattle.fedrun_files.specs.Loaded.{input_file}
use Rattle.expand_federation.specs.Made.{IsFederationOf}
use Rattle.fedrun_lint_findings.specs.declared.refusal.Refusal.{Refusal}
use Rattle.fedrun_lint.specs.Answered.{GivenFile, PrintsReport}

-- a file of this name, with these bytes
abbrev pub file_of : List ℕ → List ℕ → GivenFile
file_of name bytes = record { name = name; bytes = Some bytes }

-- a report on a federation file, under this name, and on inputs was printed, and nothing is wrong in them
abbrev pub PrintsRightText : List ℕ → List ℕ → List ℕ → List ℕ → Option (List ℕ) → Option (List ℕ) → Type 0
PrintsRightText name text inputs_name inputs before after =
    PrintsReport (file_of name text) (file_of inputs_name inputs) false before after

-- the same of the federation file that a source becomes, under the source's name
abbrev pub PrintsRight : List ℕ → List ℕ → List ℕ → List ℕ → Option (List ℕ) → Option (List ℕ) → Type 0
PrintsRight name source inputs_name inputs before after =
    (text : List ℕ) × IsFederationOf source [] text × PrintsRightText name text inputs_name inputs before after

-- the same of the source in a file, and of the inputs in another
pub record PrintsLint (contents : Contents) (source inputs : List ℕ)
    (before after : Option (List ℕ)) : Type 0 where
  pub source_bytes : List ℕ
  pub input_bytes : List ℕ
  pub source_is : AreBytesOf (contents source) source_bytes
  pub inputs_are : AreBytesOf (input_file contents inputs) input_bytes
  pub prints : PrintsRight source source_bytes inputs input_bytes before after

-- the same of some two files
abbrev pub PrintsSome : Contents → Option (List ℕ) → Option (List ℕ) → Type 0
PrintsSome contents before after = (source inputs : List ℕ) × PrintsLint contents source inputs before after

-- two files are refused with the same fault first, or neither is
abbrev pub HaveOneFault : Option Refusal → Option Refusal → Type 0
HaveOneFault None None = ⊤
HaveOneFault (Some one) (Some other) = other.first.fault ≡ one.first.fault
HaveOneFault None (Some other) = ⊥
HaveOneFault (Some one) None = ⊥
