-- A station's own faults: their numbers, and how they are printed; and which refusals close a link.
use Rattle.std.specs.Prelude.{ℕ, Bool, true, false, List, codes}
use Rattle.signal.specs.Fault.{printed_fault}
use Rattle.protocol.specs.declared.refusal.Refusal.{Refusal}
use Rattle.protocol.specs.Refusals.{number_of, text_of}
use Rattle.node.specs.declared.fault.NodeFault.{NodeFault}
use Rattle.node.specs.declared.fault.NodeFault.TheVariants as fault
use Rattle.protocol.specs.declared.refusal.Refusal.TheVariants.{Late, OldGrant, WrongSignal, NotYours, BelowGrant}
use Rattle.protocol.specs.declared.refusal.Refusal.TheVariants.{NotRising, AfterStop, NotForCoordinator}

-- the signals of a step don't fit in a link
abbrev pub no_room : ℕ
no_room = 60

-- a step has no memory
abbrev pub out_of_memory : ℕ
out_of_memory = 66

-- the number by which a station answers a node's fault
abbrev pub fault_number : NodeFault → ℕ
fault_number (fault.Refused refusal) = number_of refusal
fault_number fault.NoRoom = no_room
fault_number fault.Memory = out_of_memory

-- what is printed where a step has no memory
abbrev pub memory_text : List ℕ
memory_text = printed_fault out_of_memory (codes "Memory")

-- what is printed of a node's fault; of a signal that isn't taken, why
abbrev pub fault_text : NodeFault → List ℕ
fault_text (fault.Refused refusal) = text_of refusal
fault_text fault.NoRoom = printed_fault no_room (codes "NoRoom")
fault_text fault.Memory = memory_text

-- whether a signal so refused closes the link that it came by: those that the coordinator refuses
abbrev pub closes : Refusal → Bool
closes Late = false
closes OldGrant = false
closes WrongSignal = false
closes NotYours = true
closes BelowGrant = true
closes NotRising = true
closes AfterStop = true
closes NotForCoordinator = true
