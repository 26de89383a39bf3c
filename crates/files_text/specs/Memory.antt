-- How it is printed that there is no memory for text.
use Rattle.std.specs.Prelude.{ℕ, List, ◌++◌, codes}
use Rattle.std.specs.Fmt.{decimal}

-- its number: that of every want of memory after loading that has no number of its own
abbrev pub memory_number : ℕ
memory_number = 91

-- what is printed of it
abbrev pub memory_text : List ℕ
memory_text = decimal memory_number ++ codes " Memory"
