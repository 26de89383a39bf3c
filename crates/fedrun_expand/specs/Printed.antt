-- What the command prints.
use Rattle.std.specs.Prelude.{ℕ, List, Option}
use Rattle.std.specs.Io.KnownBytes.{Appends}
use Rattle.fedrun_files.specs.Contents.{Contents, AreBytesOf}
use Rattle.expand_source.specs.declared.part.Given.{Given}
use Rattle.expand_federation.specs.Made.{IsFederationOf}

-- what a source becomes with these values was printed
abbrev pub PrintsExpansion : List ℕ → List Given → Option (List ℕ) → Option (List ℕ) → Type 0
PrintsExpansion source given before after =
    (text : List ℕ) × IsFederationOf source given text × Appends before after text

-- what the bytes of a file become with these values was printed
abbrev pub PrintsFile : Option (List ℕ) → List Given → Option (List ℕ) → Option (List ℕ) → Type 0
PrintsFile known given before after =
    (source : List ℕ) × AreBytesOf known source × PrintsExpansion source given before after

-- what the bytes of some file become with some values was printed
abbrev pub PrintsFederation : Contents → Option (List ℕ) → Option (List ℕ) → Type 0
PrintsFederation contents before after =
    (name : List ℕ) × (given : List Given) × PrintsFile (contents name) given before after
