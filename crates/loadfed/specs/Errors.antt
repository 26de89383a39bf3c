-- What faults of tables, of plans and of recorded inputs are as faults of files.
use Rattle.plan.specs.declared.plan_fault.PlanFault.{PlanFault}
use Rattle.plan.specs.declared.plan_fault.PlanFault.TheVariants as plan_fault
use Rattle.plan.specs.declared.input_fault.InputFault.{InputFault}
use Rattle.plan.specs.declared.input_fault.InputFault.TheVariants as input_fault
use Rattle.loadfed_tables.specs.declared.fault.TableFault.{TableFault}
use Rattle.loadfed_tables.specs.declared.fault.TableFault.TheVariants as table_fault
use Rattle.loadfed.specs.declared.fault.LoadFault.{LoadFault}
use Rattle.loadfed.specs.declared.fault.LoadFault.TheVariants.{NotToml, WrongShape, Plan, UnknownAction, RepeatedInput}
use Rattle.loadfed.specs.declared.fault.LoadFault.TheVariants.{OverLimit, Memory}

-- a fault of a table
abbrev pub fault_of_table : TableFault → LoadFault
fault_of_table table_fault.NotToml = NotToml
fault_of_table (table_fault.WrongShape key) = WrongShape key
fault_of_table table_fault.OverLimit = OverLimit
fault_of_table table_fault.Memory = Memory

-- a fault of a plan. Want of memory has one form
abbrev pub fault_of_plan : PlanFault → LoadFault
fault_of_plan plan_fault.Memory = Memory
fault_of_plan fault = Plan fault

-- a fault of recorded inputs
abbrev pub fault_of_inputs : InputFault → LoadFault
fault_of_inputs input_fault.UnknownAction = UnknownAction
fault_of_inputs input_fault.RepeatedInput = RepeatedInput
fault_of_inputs input_fault.OverLimit = OverLimit
fault_of_inputs input_fault.Memory = Memory
