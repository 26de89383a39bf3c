-- What nodes' files say of a run, whichever form each has, and why one isn't taken.
use Rattle.std.specs.Prelude.{◌≡◌, ◌≢◌, ℕ, List, None, Some}
use Rattle.node.specs.declared.event.Event.{Event}
use Rattle.recorder_reports.specs.declared.report.Report.{Report}
use Rattle.recorder_reports.specs.Reports.{Collecting, IsRefusedFor}
use Rattle.fedrun_files.specs.declared.reading.Sources.{Sources}
use Rattle.files_reports.specs.declared.file_digests.FileDigests.{FileDigests}
use Rattle.files_reports.specs.declared.layout.TheConstants.{COORDINATOR}
use Rattle.files_reports.specs.Said.{by_coordinator}
use Rattle.files_reports.specs.File.{IsReportOf}
use Rattle.files_reports.specs.Taken as reports
use Rattle.files_logs.specs.declared.log.Log.{Log}
use Rattle.files_logs.specs.declared.log_fault.LogFault.{LogFault}
use Rattle.files_logs.specs.declared.log_fault.LogFault.TheVariants as logs
use Rattle.files_logs.specs.Reading.{IsNamed, IsLogRead, IsLogFault}
use Rattle.fedrun_reports.specs.declared.rules.TheConstants.{RULES}
use Rattle.fedrun_reports.specs.declared.node_file_fault.NodeFileFault.{NodeFileFault}
use Rattle.fedrun_reports.specs.declared.node_file_fault.NodeFileFault.TheVariants as faults
use Rattle.fedrun_reports.specs.After.{federate_after}

-- the file is the coordinator's of a run of these files, with this journal: it is the report that says so, or the log
pub data IsOfCoordinator (files : FileDigests) (journal : List Event) (bytes : List ℕ) : Type 0 where
  by_report : IsReportOf files (by_coordinator journal) bytes → IsOfCoordinator files journal bytes
  by_log : (log : Log) → IsLogRead files (Some COORDINATOR) RULES bytes log → journal ≡ log.journal
      → IsOfCoordinator files journal bytes

-- what a federate's log reports: its journal, and the rows that its node makes by that
abbrev pub report_by : Sources → Log → Report
report_by s log = record {
  federate = log.who;
  rows = (federate_after s log.who log.journal).federate.rows;
  journal = log.journal;
}

-- the bytes are some federate's log of a run of these files
pub record IsFederateLog (files : FileDigests) (bytes : List ℕ) (log : Log) : Type 0 where
  pub is_log : IsLogRead files None RULES bytes log
  pub of_federate : log.who ≢ COORDINATOR

-- the file is this report of a federate in a run of these files: it is the report, or the log that reports so
pub data IsOfFederate (files : FileDigests) (s : Sources) (report : Report) (bytes : List ℕ) : Type 0 where
  by_report : IsReportOf files (reports.by_report report) bytes → IsOfFederate files s report bytes
  by_log : (log : Log) → IsFederateLog files bytes log → report ≡ report_by s log → IsOfFederate files s report bytes

-- Why the file in the place of the coordinator's isn't taken:
abbrev pub IsCoordinatorFault : FileDigests → List ℕ → NodeFileFault → Type 0
-- it isn't named as a log, and no report of the coordinator's;
IsCoordinatorFault files bytes (faults.Report why) = (¬ IsNamed bytes) × reports.IsCoordinatorFault files bytes why
-- or it is named so, and no log of the coordinator's.
IsCoordinatorFault files bytes (faults.Log why) = IsNamed bytes × IsLogFault files (Some COORDINATOR) RULES bytes why
IsCoordinatorFault files bytes (faults.NotTaken why) = ⊥

-- why the log in the place of a federate's isn't read: there is none, it is the coordinator's, or there is no memory for
-- the rows
pub data IsFederateLogFault (files : FileDigests) (bytes : List ℕ) (why : LogFault) : Type 0 where
  unread : IsLogFault files None RULES bytes why → IsFederateLogFault files bytes why
  of_coordinator : (log : Log) → IsLogRead files None RULES bytes log → log.who ≡ COORDINATOR → why ≡ logs.OtherNode
      → IsFederateLogFault files bytes why
  no_memory : (log : Log) → IsFederateLog files bytes log → why ≡ logs.Memory → IsFederateLogFault files bytes why

-- Why the file in the place of a federate's isn't taken, beside the reports before it:
abbrev pub IsFederateFault : Collecting → FileDigests → Sources → List ℕ → NodeFileFault → Type 0
-- it isn't named as a log, and no such report;
IsFederateFault before files s bytes (faults.Report why) =
    (¬ IsNamed bytes) × reports.IsFederateFault before files bytes why
-- it is named so, and no log of a federate's;
IsFederateFault before files s bytes (faults.Log why) = IsNamed bytes × IsFederateLogFault files bytes why
-- or it is one, and what it reports isn't taken.
IsFederateFault before files s bytes (faults.NotTaken why) =
    IsNamed bytes × ((log : Log) × IsFederateLog files bytes log × IsRefusedFor before (report_by s log) why)
