-- How faults of logs are printed: a number, a space and a name, as of report files of version 1 where it is the same.
use Rattle.std.specs.Prelude.{ℕ, List, codes}
use Rattle.signal.specs.Fault.{printed_fault}
use Rattle.files_reports.specs.Faults.{content_number, content_name, memory_number, memory_name}
use Rattle.files_logs.specs.declared.log_fault.LogFault.{LogFault}
use Rattle.files_logs.specs.declared.log_fault.LogFault.TheVariants.{NoLog, Damaged, OtherFiles, OtherNode, OtherLog}
use Rattle.files_logs.specs.declared.log_fault.LogFault.TheVariants.{Content, CutShort, Memory}
use Rattle.files_logs.specs.declared.write_fault.LogWriteFault.{LogWriteFault}
use Rattle.files_logs.specs.declared.write_fault.LogWriteFault.TheVariants as unwritten

-- why bytes aren't read
abbrev pub log_number : LogFault → ℕ
log_number NoLog = 100
log_number Damaged = 122
log_number OtherFiles = 103
log_number OtherNode = 111
log_number OtherLog = 121
log_number (Content fault) = content_number fault
log_number CutShort = 102
log_number Memory = memory_number

abbrev pub log_name : LogFault → List ℕ
log_name NoLog = codes "NoReport"
log_name Damaged = codes "Damaged"
log_name OtherFiles = codes "OtherFiles"
log_name OtherNode = codes "OtherNode"
log_name OtherLog = codes "OtherLog"
log_name (Content fault) = content_name fault
log_name CutShort = codes "CutShort"
log_name Memory = memory_name

abbrev pub log_text : LogFault → List ℕ
log_text fault = printed_fault (log_number fault) (log_name fault)

-- why a block isn't written
abbrev pub write_number : LogWriteFault → ℕ
write_number unwritten.TooLong = 101
write_number unwritten.Memory = memory_number

abbrev pub write_name : LogWriteFault → List ℕ
write_name unwritten.TooLong = codes "TooLong"
write_name unwritten.Memory = memory_name

abbrev pub write_text : LogWriteFault → List ℕ
write_text fault = printed_fault (write_number fault) (write_name fault)
