-- The numbers by which faults are printed, and how a report that isn't taken is printed.
use Rattle.std.specs.Prelude.{ℕ, List, codes}
use Rattle.signal.specs.Fault.{printed_fault}
use Rattle.recorder_search.specs.Fault.{memory_number}
use Rattle.recorder_reports.specs.declared.report_fault.ReportFault.{ReportFault}
use Rattle.recorder_reports.specs.declared.report_fault.ReportFault.TheVariants as fault
use Rattle.recorder_reports.specs.declared.unproved.Unproved.{Unproved}
use Rattle.recorder_reports.specs.declared.unproved.Unproved.TheVariants.{Stranger, Double, Missing, Stuck, Mismatch}
use Rattle.recorder_reports.specs.declared.unproved.Unproved.TheVariants.{Memory}

-- the number by which a failure of an audit is printed
abbrev pub number_of : Unproved → ℕ
number_of Stranger = 80
number_of Double = 81
number_of (Stuck node event) = 82
number_of (Mismatch federate row) = 83
number_of (Missing federate) = 84
number_of Memory = memory_number

-- a report that isn't taken has the number of the audit's answer
abbrev pub number_of_report_fault : ReportFault → ℕ
number_of_report_fault fault.Stranger = number_of Stranger
number_of_report_fault fault.Double = number_of Double
number_of_report_fault fault.Memory = number_of Memory

-- the name by which a report that isn't taken is printed
abbrev pub name_of_report_fault : ReportFault → List ℕ
name_of_report_fault fault.Stranger = codes "Stranger"
name_of_report_fault fault.Double = codes "Double"
name_of_report_fault fault.Memory = codes "Memory"

-- what is printed of a report that isn't taken
abbrev pub text_of_report_fault : ReportFault → List ℕ
text_of_report_fault fault = printed_fault (number_of_report_fault fault) (name_of_report_fault fault)
