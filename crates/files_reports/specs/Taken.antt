-- Report files as an audit takes them, and why one isn't taken.
use Rattle.std.specs.Prelude.{◌≡◌, ℕ, List}
use Rattle.node.specs.declared.event.Event.{Event}
use Rattle.network.specs.Undivided.{Row}
use Rattle.recorder_reports.specs.declared.report.Report.{Report}
use Rattle.recorder_reports.specs.Reports.{Collecting, IsRefusedFor}
use Rattle.files_reports.specs.declared.file_digests.FileDigests.{FileDigests}
use Rattle.files_reports.specs.declared.report_file_fault.ReportFileFault.{ReportFileFault}
use Rattle.files_reports.specs.declared.report_file_fault.ReportFileFault.TheVariants.{Unread, OtherNode, NotTaken}
use Rattle.files_reports.specs.Said.{Said, by_coordinator, by_federate}
use Rattle.files_reports.specs.File.{IsReportOf, IsReadFault}

-- what a federate's report says
abbrev pub by_report : Report → Said
by_report report = by_federate report.federate report.rows report.journal

-- the file is some federate's report
abbrev pub IsOfSomeFederate : FileDigests → List ℕ → Type 0
IsOfSomeFederate files bytes =
    (federate : ℕ) × (rows : List Row) × (journal : List Event)
    × IsReportOf files (by_federate federate rows journal) bytes

-- the file is the coordinator's report
abbrev pub IsOfCoordinator : FileDigests → List ℕ → Type 0
IsOfCoordinator files bytes = (journal : List Event) × IsReportOf files (by_coordinator journal) bytes

-- why the file in the place of the coordinator's isn't taken
abbrev pub IsCoordinatorFault : FileDigests → List ℕ → ReportFileFault → Type 0
IsCoordinatorFault files bytes (Unread why) = IsReadFault files bytes why
IsCoordinatorFault files bytes OtherNode = IsOfSomeFederate files bytes
IsCoordinatorFault files bytes (NotTaken why) = ⊥

-- why the file in the place of a federate's isn't taken, beside the reports before it
abbrev pub IsFederateFault : Collecting → FileDigests → List ℕ → ReportFileFault → Type 0
IsFederateFault before files bytes (Unread why) = IsReadFault files bytes why
IsFederateFault before files bytes OtherNode = IsOfCoordinator files bytes
IsFederateFault before files bytes (NotTaken why) =
    (report : Report) × IsReportOf files (by_report report) bytes × IsRefusedFor before report why
