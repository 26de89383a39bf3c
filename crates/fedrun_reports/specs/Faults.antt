-- How faults of nodes' files are printed: a number, a space and a name.
use Rattle.std.specs.Prelude.{ℕ, List}
use Rattle.recorder_reports.specs.Numbers.{number_of_report_fault, text_of_report_fault}
use Rattle.files_reports.specs.Faults.{file_number, file_text}
use Rattle.files_logs.specs.Faults.{log_number, log_text}
use Rattle.fedrun_reports.specs.declared.node_file_fault.NodeFileFault.{NodeFileFault}
use Rattle.fedrun_reports.specs.declared.node_file_fault.NodeFileFault.TheVariants.{Report, Log, NotTaken}

-- its number
abbrev pub node_file_number : NodeFileFault → ℕ
node_file_number (Report why) = file_number why
node_file_number (Log why) = log_number why
node_file_number (NotTaken why) = number_of_report_fault why

-- what is printed of it; what a library answered is printed as the library has it
abbrev pub node_file_text : NodeFileFault → List ℕ
node_file_text (Report why) = file_text why
node_file_text (Log why) = log_text why
node_file_text (NotTaken why) = text_of_report_fault why
