-- How it is printed that a federate can't be made, or a turn be worked out, for want of memory.
use Rattle.std.specs.Prelude.{ℕ, List, codes}
use Rattle.signal.specs.Fault.{printed_fault}

-- the number of the out-of-memory fault
abbrev pub memory_number : ℕ
memory_number = 64

-- what is printed of it
abbrev pub memory_text : List ℕ
memory_text = printed_fault memory_number (codes "Memory")
