-- The program's faults: the exit status that goes with each, and how it is printed. Of the faults that a program has
-- beside these it is said by the program.
use Rattle.std.specs.Prelude.{ℕ, List, Option, None, Some}
use Rattle.loadfed.specs.Numbers as tables
use Rattle.loadfed.specs.declared.fault.LoadFault.TheVariants as load
use Rattle.reactor_program.specs.ProgramFaults as program
use Rattle.files_text.specs.Memory.{memory_text}
use Rattle.fedrun_words.specs.declared.reading.WordsFault.{WordsFault}
use Rattle.fedrun_words.specs.declared.reading.WordsFault.TheVariants as words
use Rattle.fedrun_words.specs.Usage.{usage_status}
use Rattle.fedrun_words.specs.declared.fault.Fault.{Fault}
use Rattle.fedrun_words.specs.declared.fault.Fault.TheVariants.{Usage, CannotRead, Load, CannotWrite, Turns, Print}
use Rattle.fedrun_words.specs.declared.fault.Fault.TheVariants.{More}

-- the exit status of a fault: 2 for words that are no command, 1 for what isn't loaded, 3 for what stopped the program
-- after that
abbrev pub status_of : {M : Type 0} → (M → ℕ) → Fault M → ℕ
status_of more Usage = usage_status
status_of more (CannotRead name) = 1
status_of more (Load fault) = 1
status_of more CannotWrite = 3
status_of more (Turns memory) = 3
status_of more (Print memory) = 3
status_of more (More fault) = more fault

-- how a fault is printed that a library answered, or that a program has beside these: as it is printed there. Of the
-- messages that are the program's own it isn't said
abbrev pub printed_fault : {M : Type 0} → (M → List ℕ) → Fault M → Option (List ℕ)
printed_fault more Usage = None
printed_fault more (CannotRead name) = None
printed_fault more (Load fault) = Some (tables.printed_fault fault)
printed_fault more CannotWrite = None
printed_fault more (Turns memory) = Some program.printed_memory
printed_fault more (Print memory) = Some memory_text
printed_fault more (More fault) = Some (more fault)

-- the fault of words that give no request
abbrev pub fault_of_words : {M : Type 0} → WordsFault → Fault M
fault_of_words words.Usage = Usage
fault_of_words words.Memory = Load load.Memory
