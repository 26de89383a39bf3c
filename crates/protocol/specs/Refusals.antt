-- The refusals: their numbers, and how they are printed.
use Rattle.std.specs.Prelude.{ℕ, List, codes}
use Rattle.signal.specs.Fault.{printed_fault}
use Rattle.protocol.specs.declared.refusal.Refusal.{Refusal}
use Rattle.protocol.specs.declared.refusal.Refusal.TheVariants.{Late, OldGrant, WrongSignal, NotYours, BelowGrant}
use Rattle.protocol.specs.declared.refusal.Refusal.TheVariants.{NotRising, AfterStop, NotForCoordinator}

-- the number by which a refusal is printed
abbrev pub number_of : Refusal → ℕ
number_of Late = 61
number_of OldGrant = 62
number_of WrongSignal = 63
number_of NotYours = 70
number_of BelowGrant = 71
number_of NotRising = 72
number_of AfterStop = 73
number_of NotForCoordinator = 75

-- the name by which a refusal is printed: a federate's wrong signal and the coordinator's have one name
abbrev pub name_of : Refusal → List ℕ
name_of Late = codes "Late"
name_of OldGrant = codes "OldGrant"
name_of WrongSignal = codes "WrongSignal"
name_of NotYours = codes "NotYours"
name_of BelowGrant = codes "BelowGrant"
name_of NotRising = codes "NotRising"
name_of AfterStop = codes "AfterStop"
name_of NotForCoordinator = codes "WrongSignal"

-- what is printed of a refusal
abbrev pub text_of : Refusal → List ℕ
text_of refusal = printed_fault (number_of refusal) (name_of refusal)
