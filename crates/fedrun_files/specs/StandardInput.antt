-- Standard input among the machine's files. What it holds is said where that is known.
use Rattle.std.specs.Prelude.{ℕ, Bool, List, Option, None, codes, if◌then◌else◌}
use Rattle.std.specs.Str.{bytes_eq}

-- whether a file's name is that of standard input
abbrev pub is_stdin : List ℕ → Bool
is_stdin name = bytes_eq name (codes "-")

-- standard input, which is none once it was read, after a file of this name was read
abbrev pub stdin_after : {I : Type 0} → Option I → List ℕ → Option I
stdin_after stdin name = if is_stdin name then None else stdin
