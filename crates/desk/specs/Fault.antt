-- How a desk's faults are printed.
use Rattle.std.specs.Prelude.{ℕ, List, codes}
use Rattle.signal.specs.Fault.{printed_fault}

-- the number of an event for which there is no memory
abbrev pub memory_number : ℕ
memory_number = 91

-- what is printed of it
abbrev pub memory_text : List ℕ
memory_text = printed_fault memory_number (codes "Memory")

-- the number of shares that aren't the journal
abbrev pub disagreement_number : ℕ
disagreement_number = 92

-- what is printed of them
abbrev pub disagreement_text : List ℕ
disagreement_text = printed_fault disagreement_number (codes "SharesDisagree")
