-- The faults of recorded inputs: their numbers, and how they are printed.
use Rattle.std.specs.Prelude.{ℕ, List, ◌++◌, codes}
use Rattle.std.specs.Fmt.{decimal}
use Rattle.plan.specs.declared.input_fault.InputFault.{InputFault}
use Rattle.plan.specs.declared.input_fault.InputFault.TheVariants.{UnknownAction, RepeatedInput, OverLimit, Memory}

-- the fault's number
abbrev pub input_number_of : InputFault → ℕ
input_number_of UnknownAction = 34
input_number_of RepeatedInput = 35
input_number_of OverLimit = 36
input_number_of Memory = 37

-- the fault's name
abbrev pub input_name_of : InputFault → List ℕ
input_name_of UnknownAction = codes "UnknownAction"
input_name_of RepeatedInput = codes "RepeatedInput"
input_name_of OverLimit = codes "OverLimit"
input_name_of Memory = codes "Memory"

-- how the fault is printed
abbrev pub printed_input_fault : InputFault → List ℕ
printed_input_fault fault = decimal (input_number_of fault) ++ (codes " " ++ input_name_of fault)
