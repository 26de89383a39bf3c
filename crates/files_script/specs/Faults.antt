-- How a schedule's faults are printed.
use Rattle.std.specs.Prelude.{ℕ, List, ◌++◌, codes}
use Rattle.std.specs.Fmt.{decimal}
use Rattle.plan.specs.declared.input_fault.InputFault.TheVariants as input_fault
use Rattle.plan.specs.InputFaults.{printed_input_fault}
use Rattle.files_script.specs.declared.fault.ScriptFault.{ScriptFault}
use Rattle.files_script.specs.declared.fault.ScriptFault.TheVariants.{OverLimit, ScheduleLine, Memory}

-- a bad line by its number; the others as those of recorded inputs
abbrev pub printed_fault : ScriptFault → List ℕ
printed_fault OverLimit = printed_input_fault input_fault.OverLimit
printed_fault (ScheduleLine number) = codes "schedule line " ++ decimal number
printed_fault Memory = printed_input_fault input_fault.Memory
