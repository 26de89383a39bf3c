-- The digests of files. What a file holds is said where its bytes are known.
use Rattle.std.specs.Prelude.{◌≡◌, ℕ, List, Option}
use Rattle.sha2.specs.Sha256.{sha256}
use Rattle.fedrun_files.specs.Contents.{AreBytesOf}

-- the digest of a file's bytes
abbrev pub IsDigestOf : Option (List ℕ) → List ℕ → Type 0
IsDigestOf known digest = (bytes : List ℕ) × AreBytesOf known bytes × (digest ≡ sha256 bytes)

-- the digests of a federation file and of an input file
pub record AreDigestsOf (federation inputs : Option (List ℕ)) (of_federation of_inputs : List ℕ) : Type 0 where
  pub federation_is : IsDigestOf federation of_federation
  pub inputs_are : IsDigestOf inputs of_inputs
