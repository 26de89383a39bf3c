-- How each fault of an end is printed.
use Rattle.std.specs.Prelude.{ℕ, List, codes}
use Rattle.signal.specs.Fault.{printed_fault}
use Rattle.link.specs.declared.fault.LinkFault.{LinkFault}
use Rattle.link.specs.declared.fault.LinkFault.TheVariants.{Full, Stranger, Gap, AckOfUnsent, Memory, Closed}

-- the number by which a fault is printed
abbrev pub number_of : LinkFault → ℕ
number_of Full = 50
number_of Stranger = 51
number_of Gap = 52
number_of AckOfUnsent = 53
number_of Memory = 54
number_of Closed = 55

-- the name by which a fault is printed
abbrev pub name_of : LinkFault → List ℕ
name_of Full = codes "Full"
name_of Stranger = codes "Stranger"
name_of Gap = codes "Gap"
name_of AckOfUnsent = codes "AckOfUnsent"
name_of Memory = codes "Memory"
name_of Closed = codes "Closed"

-- what is printed of a fault
abbrev pub text_of : LinkFault → List ℕ
text_of fault = printed_fault (number_of fault) (name_of fault)
