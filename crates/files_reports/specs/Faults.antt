-- How faults of report files are printed: a number, a space and a name.
use Rattle.std.specs.Prelude.{ℕ, List, codes}
use Rattle.signal.specs.Fault.{printed_fault}
use Rattle.files_reports.specs.declared.content_fault.ContentFault.{ContentFault}
use Rattle.files_reports.specs.declared.content_fault.ContentFault.TheVariants.{Short, BadTag, BadEvent, BadFrame}
use Rattle.files_reports.specs.declared.content_fault.ContentFault.TheVariants.{Trailing}
use Rattle.files_reports.specs.declared.read_fault.ReadFault.{ReadFault}
use Rattle.files_reports.specs.declared.read_fault.ReadFault.TheVariants.{NoReport, TooLong, CutShort, OtherFiles}
use Rattle.files_reports.specs.declared.read_fault.ReadFault.TheVariants.{Content, Memory}
use Rattle.files_reports.specs.declared.write_fault.WriteFault.{WriteFault}
use Rattle.files_reports.specs.declared.write_fault.WriteFault.TheVariants as unwritten
use Rattle.files_reports.specs.declared.report_file_fault.ReportFileFault.{ReportFileFault}
use Rattle.files_reports.specs.declared.report_file_fault.ReportFileFault.TheVariants.{Unread, OtherNode, NotTaken}
use Rattle.recorder_reports.specs.Numbers.{number_of_report_fault, text_of_report_fault}

-- what is wrong with what is said
abbrev pub content_number : ContentFault → ℕ
content_number Short = 104
content_number BadTag = 105
content_number BadEvent = 106
content_number BadFrame = 107
content_number Trailing = 108

abbrev pub content_name : ContentFault → List ℕ
content_name Short = codes "Short"
content_name BadTag = codes "BadTag"
content_name BadEvent = codes "BadEvent"
content_name BadFrame = codes "BadFrame"
content_name Trailing = codes "Trailing"

-- there was no memory
abbrev pub memory_number : ℕ
memory_number = 109

abbrev pub memory_name : List ℕ
memory_name = codes "Memory"

-- what is wrong with a file
abbrev pub read_number : ReadFault → ℕ
read_number NoReport = 100
read_number TooLong = 101
read_number CutShort = 102
read_number OtherFiles = 103
read_number (Content fault) = content_number fault
read_number Memory = memory_number

abbrev pub read_name : ReadFault → List ℕ
read_name NoReport = codes "NoReport"
read_name TooLong = codes "TooLong"
read_name CutShort = codes "CutShort"
read_name OtherFiles = codes "OtherFiles"
read_name (Content fault) = content_name fault
read_name Memory = memory_name

-- why no file is written
abbrev pub write_number : WriteFault → ℕ
write_number unwritten.NotOwn = 110
write_number unwritten.TooLong = 101
write_number unwritten.Memory = memory_number

abbrev pub write_name : WriteFault → List ℕ
write_name unwritten.NotOwn = codes "NotOwn"
write_name unwritten.TooLong = codes "TooLong"
write_name unwritten.Memory = memory_name

-- what is printed of them
abbrev pub content_text : ContentFault → List ℕ
content_text fault = printed_fault (content_number fault) (content_name fault)

abbrev pub read_text : ReadFault → List ℕ
read_text fault = printed_fault (read_number fault) (read_name fault)

abbrev pub write_text : WriteFault → List ℕ
write_text fault = printed_fault (write_number fault) (write_name fault)

abbrev pub memory_text : List ℕ
memory_text = printed_fault memory_number memory_name

-- why a file isn't taken as a report
abbrev pub file_number : ReportFileFault → ℕ
file_number (Unread why) = read_number why
file_number OtherNode = 111
file_number (NotTaken why) = number_of_report_fault why

abbrev pub file_text : ReportFileFault → List ℕ
file_text (Unread why) = read_text why
file_text OtherNode = printed_fault 111 (codes "OtherNode")
file_text (NotTaken why) = text_of_report_fault why
