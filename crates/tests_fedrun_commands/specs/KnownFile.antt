-- A file and no other.
use Rattle.std.specs.Prelude.{ℕ, List, Option, None, Some, if◌then◌else◌, nat_eq}
use Rattle.std.specs.Cmp.Lexicographic.{pointwise}

-- the bytes of the file of a name, where there is one file, of this name and with this text
abbrev pub contents_of : List ℕ → List ℕ → List ℕ → Option (List ℕ)
contents_of name text wanted = if pointwise nat_eq wanted name then Some text else None
