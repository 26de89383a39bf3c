-- The digest of a federation's files.
use Rattle.std.specs.Prelude.{ℕ, List, ◌++◌, length}
use Rattle.std.specs.Int.{w64, to_be_bytes}
use Rattle.sha2.specs.Sha256.{sha256}

-- a file behind its length in eight bytes, the highest first
abbrev pub with_length : List ℕ → List ℕ
with_length file = to_be_bytes w64 (length file) ++ file

-- SHA-256 of the federation file and the input file, each behind its length
abbrev pub files_digest : List ℕ → List ℕ → List ℕ
files_digest federation inputs = sha256 (with_length federation ++ with_length inputs)
