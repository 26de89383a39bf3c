-- How a connection's faults are printed.
use Rattle.std.specs.Prelude.{ℕ, List, codes}
use Rattle.signal.specs.Fault.{printed_fault}

-- the number of a call that failed
abbrev pub broken_number : ℕ
broken_number = 95

-- what is printed of it
abbrev pub broken_text : List ℕ
broken_text = printed_fault broken_number (codes "Broken")
