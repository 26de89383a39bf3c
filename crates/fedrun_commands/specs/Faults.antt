-- The program's faults: the exit status that goes with each, and how it is printed.
use Rattle.std.specs.Prelude.{ℕ, List, ◌++◌, codes, Option}
use Rattle.fedrun_words.specs.Faults as every
use Rattle.fedrun_words.specs.declared.fault.Fault.{Fault}
use Rattle.files_script.specs.Faults as script
use Rattle.world_stations.specs.Numbers.{out_of_memory_text}
use Rattle.desk.specs.Fault.{memory_text}
use Rattle.fedrun_draw.specs.Faults as picture
use Rattle.fedrun_draw.specs.declared.fault.DrawFault.{DrawFault}
use Rattle.fedrun_draw.specs.declared.fault.DrawFault.TheVariants as undrawn
use Rattle.fedrun_reports.specs.Faults.{node_file_text}
use Rattle.fedrun_run.specs.AuditFailures.{printed_failure}
use Rattle.fedrun_commands.specs.declared.fault.NodeFault.{NodeFault}
use Rattle.fedrun_commands.specs.declared.fault.NodeFault.TheVariants.{Schedule, World, Undrawn, NotTaken, ReportFile}
use Rattle.fedrun_commands.specs.declared.fault.NodeFault.TheVariants.{NotFinished, Unproved, Run}

-- the exit status where a picture isn't drawn: 1 where it would be too great
abbrev pub drawing_status : DrawFault → ℕ
drawing_status (undrawn.TooManySteps count) = 1
drawing_status (undrawn.TooManyFrames count) = 1
drawing_status undrawn.Memory = 3
drawing_status undrawn.CannotWrite = 3

-- the exit status of a fault of nodes: 1 for a schedule that isn't taken or has too many steps to be drawn, and where
-- files that were looked at aren't taken; 3 for what stopped the program after that
abbrev pub node_status : NodeFault → ℕ
node_status (Schedule fault) = 1
node_status (World memory) = 3
node_status (Undrawn fault) = drawing_status fault
node_status NotTaken = 1
node_status (ReportFile name fault) = 1
node_status (NotFinished cause) = 3
node_status (Unproved failure) = 3
node_status (Run memory) = 3

-- how a fault of nodes is printed; what a library answered is printed as the library has it
abbrev pub printed_node_fault : NodeFault → List ℕ
printed_node_fault (Schedule fault) = script.printed_fault fault
printed_node_fault (World memory) = out_of_memory_text
printed_node_fault (Undrawn fault) = picture.printed_fault fault
printed_node_fault NotTaken = codes "not taken"
printed_node_fault (ReportFile name fault) = name.now ++ codes ": " ++ node_file_text fault
printed_node_fault (NotFinished cause) = codes "not finished"
printed_node_fault (Unproved failure) = printed_failure failure
printed_node_fault (Run memory) = memory_text

-- the exit status of a fault
abbrev pub status_of : Fault NodeFault → ℕ
status_of = every.status_of node_status

-- how a fault is printed, but for the program's own messages
abbrev pub printed_fault : Fault NodeFault → Option (List ℕ)
printed_fault = every.printed_fault printed_node_fault
