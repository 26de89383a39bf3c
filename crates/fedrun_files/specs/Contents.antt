-- The bytes of files by name. What a file holds is said where its bytes are known.
use Rattle.std.specs.Prelude.{◌≡◌, ℕ, List, Option, IfSome}

-- the bytes of files by name, where they are known
abbrev pub Contents : Type 0
Contents = List ℕ → Option (List ℕ)

-- these are the file's bytes, where they are known
abbrev pub AreBytesOf : Option (List ℕ) → List ℕ → Type 0
AreBytesOf known bytes = IfSome known (λ there. bytes ≡ there)
