-- How it is printed that there is no memory for a step.
use Rattle.std.specs.Prelude.{ℕ, List, codes}
use Rattle.signal.specs.Fault.{printed_fault}

-- the number by which it is printed
abbrev pub out_of_memory : ℕ
out_of_memory = 90

-- what is printed of it
abbrev pub out_of_memory_text : List ℕ
out_of_memory_text = printed_fault out_of_memory (codes "Memory")
