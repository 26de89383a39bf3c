-- The faults of a program: their numbers, and how they are printed.
use Rattle.std.specs.Prelude.{ℕ, List, ◌++◌, codes}
use Rattle.std.specs.Fmt.{decimal}
use Rattle.reactor_program.specs.declared.program_fault.ProgramFault.{ProgramFault}
use Rattle.reactor_program.specs.declared.program_fault.ProgramFault.TheVariants.{BadLine, UnknownOperand, Memory}
use Rattle.reactor_program.specs.declared.program_fault.ProgramFault.TheVariants.{RepeatedState}

-- the fault's number
abbrev pub fault_number : ProgramFault → ℕ
fault_number (BadLine reaction line) = 20
fault_number (UnknownOperand reaction line) = 21
fault_number Memory = 22
fault_number RepeatedState = 23

-- a federate, a reaction and a line, parted by one space
abbrev pub printed_line_of : List ℕ → ℕ → ℕ → List ℕ
printed_line_of federate reaction line = federate ++ (codes " " ++ (decimal reaction ++ (codes " " ++ decimal line)))

-- what is printed after the number: the fault's name, and where it stands in the program of this federate
abbrev pub fault_text_of : List ℕ → ProgramFault → List ℕ
fault_text_of federate (BadLine reaction line) = codes " BadLine " ++ printed_line_of federate reaction line
fault_text_of federate (UnknownOperand reaction line) =
    codes " UnknownOperand " ++ printed_line_of federate reaction line
fault_text_of federate Memory = codes " Memory"
fault_text_of federate RepeatedState = codes " RepeatedState " ++ federate

-- how the fault of the program of this federate is printed
abbrev pub printed_fault_of : List ℕ → ProgramFault → List ℕ
printed_fault_of federate fault = decimal (fault_number fault) ++ fault_text_of federate fault

-- how want of memory for a turn is printed
abbrev pub printed_memory : List ℕ
printed_memory = decimal (fault_number Memory) ++ codes " Memory"
