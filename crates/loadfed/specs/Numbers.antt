-- The faults: their numbers, and how they are printed.
use Rattle.std.specs.Prelude.{ℕ, List, ◌++◌, codes}
use Rattle.std.specs.Fmt.{decimal}
use Rattle.plan.specs.declared.input_fault.InputFault.TheVariants as input_fault
use Rattle.plan.specs.PlanFaults as plan_faults
use Rattle.plan.specs.InputFaults.{input_number_of, printed_input_fault}
use Rattle.reactor_program.specs.ProgramFaults.{printed_fault_of}
use Rattle.loadfed.specs.declared.fault.LoadFault.{LoadFault}
use Rattle.loadfed.specs.declared.fault.LoadFault.TheVariants.{NotToml, WrongShape, Plan, Program, UnknownAction}
use Rattle.loadfed.specs.declared.fault.LoadFault.TheVariants.{RepeatedInput, OverLimit, Memory}

-- the fault's number; those of recorded inputs are `plan`'s
abbrev pub number_of : LoadFault → ℕ
number_of NotToml = 30
number_of (WrongShape key) = 31
number_of (Plan fault) = 32
number_of (Program federate fault) = 33
number_of UnknownAction = input_number_of input_fault.UnknownAction
number_of RepeatedInput = input_number_of input_fault.RepeatedInput
number_of OverLimit = input_number_of input_fault.OverLimit
number_of Memory = input_number_of input_fault.Memory

-- how the fault is printed; of a plan or a program it is the inner fault
abbrev pub printed_fault : LoadFault → List ℕ
printed_fault NotToml = decimal (number_of NotToml) ++ codes " NotToml"
printed_fault (WrongShape key) = decimal (number_of (WrongShape key)) ++ (codes " WrongShape " ++ key)
printed_fault (Plan fault) = plan_faults.printed_fault fault
printed_fault (Program federate fault) = printed_fault_of federate fault
printed_fault UnknownAction = printed_input_fault input_fault.UnknownAction
printed_fault RepeatedInput = printed_input_fault input_fault.RepeatedInput
printed_fault OverLimit = printed_input_fault input_fault.OverLimit
printed_fault Memory = printed_input_fault input_fault.Memory
