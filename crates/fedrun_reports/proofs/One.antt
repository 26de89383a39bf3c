-- A file says one thing: as a report it begins with another name than as a log.
use Rattle.std.proofs.Common.{◌≡◌, ℕ, List, [], ◌++◌, get_or, Option, None, Some, sym, ap, ◌∙◌, append_assoc, arith}
use Rattle.byteorder.specs.Endian.{big_bytes}
use Rattle.node.specs.declared.event.Event.{Event}
use Rattle.recorder_reports.specs.declared.report.Report.{Report}
use Rattle.sha2.specs.Sha256.{sha256}
use Rattle.files_reports.specs.declared.file_digests.FileDigests.{FileDigests}
use Rattle.files_reports.specs.declared.layout.TheConstants.{COORDINATOR}
use Rattle.files_reports.specs.Said.{Said, by_coordinator, by_federate}
use Rattle.files_reports.specs.Spelling.{said_bytes}
use Rattle.files_reports.specs.File as reports
use Rattle.files_reports.specs.File.{IsReportOf}
use Rattle.files_reports.specs.Taken as taken
use Rattle.files_reports.proofs.Files.{one_report_in}
use Rattle.files_logs.specs.declared.log.Log.{Log}
use Rattle.files_logs.specs.declared.log_head.LogHead.{LogHead}
use Rattle.files_logs.specs.Blocks.{blocks_bytes}
use Rattle.files_logs.specs.Log as logs
use Rattle.files_logs.specs.Reading.{IsLogRead, IsRead, unended, ended, head_of}
use Rattle.files_logs.proofs.Headed.{digests, head_apart}
use Rattle.files_logs.proofs.OneLog.{one_log}
use Rattle.fedrun_files.specs.declared.reading.Sources.{Sources}
use Rattle.fedrun_reports.specs.declared.rules.TheConstants.{RULES}
use Rattle.fedrun_reports.specs.Files.{IsOfCoordinator, by_report, by_log, IsOfFederate, report_by}

-- bytes that begin with the one name don't begin with the other
not_both : (bytes behind other : List ℕ) → bytes ≡ reports.format ++ behind → bytes ≡ logs.format ++ other → ⊥
not_both bytes behind other h k =
    let names : reports.format ++ behind ≡ logs.format ++ other = sym h ∙ k in
    let digits : 49 ≡ 50 = ap (λ (l : List ℕ). get_or l 7 0) names in
    omega (arith, digits)

report_named : (files : FileDigests) (said : Said) (bytes : List ℕ) → IsReportOf files said bytes → (behind : List ℕ) × (bytes ≡ reports.format ++ behind)
report_named files said bytes h =
    let behind = files.federation ++ (files.inputs ++ said_bytes said) in
    (behind ++ sha256 (reports.headed files (said_bytes said)), h.is_file ∙ append_assoc reports.format behind (sha256 (reports.headed files (said_bytes said))))

read_named : (head : LogHead) (bytes : List ℕ) (log : Log) → IsRead head bytes log → (behind : List ℕ) × (bytes ≡ logs.format ++ behind)
read_named head bytes log (unended blocks rest begun stop is) =
    let said = blocks_bytes (logs.head_sum head) blocks in (
      digests head (big_bytes 8 (logs.head_sum head) ++ (said ++ rest)),
      begun.begins ∙ append_assoc (logs.head_bytes head) said rest ∙ head_apart head (said ++ rest),
    )
read_named head bytes log (ended blocks is_log is_bytes is) =
    let said = blocks_bytes (logs.head_sum head) blocks in
    let rest = logs.end_bytes (logs.last_sum head blocks) (logs.log_bytes head blocks) in (
      digests head (big_bytes 8 (logs.head_sum head) ++ (said ++ rest)),
      is_bytes ∙ append_assoc (logs.head_bytes head) said rest ∙ head_apart head (said ++ rest),
    )

-- no report is a log
no_log : (files other : FileDigests) (said : Said) (who : Option ℕ) (rules : ℕ) (bytes : List ℕ) (log : Log) → IsReportOf files said bytes
    → IsLogRead other who rules bytes log → ⊥
no_log files other said who rules bytes log h k =
    let mine = report_named files said bytes h in
    let theirs = read_named (head_of other rules log.who) bytes log k.is_read in
    not_both bytes mine.0 theirs.0 mine.1 theirs.1

abbrev journal_said : Said → List Event
journal_said (by_coordinator journal) = journal
journal_said (by_federate federate rows journal) = journal

pub one_journal : (files : FileDigests) (journal other : List Event) (bytes : List ℕ) → IsOfCoordinator files journal bytes → IsOfCoordinator files other bytes → journal ≡ other
one_journal files journal other bytes (by_report h) (by_report k) =
    ap journal_said (one_report_in files (by_coordinator journal) (by_coordinator other) bytes h k)
one_journal files journal other bytes (by_report h) (by_log log k is) = absurd (no_log files files (by_coordinator journal) (Some COORDINATOR) RULES bytes log h k)
one_journal files journal other bytes (by_log log h is) (by_report k) = absurd (no_log files files (by_coordinator other) (Some COORDINATOR) RULES bytes log k h)
one_journal files journal other bytes (by_log log h is) (by_log more k also) =
    is ∙ ap (λ (l : Log). l.journal) (one_log files (Some COORDINATOR) RULES bytes log more h k) ∙ sym also

-- the report that such words say
abbrev report_said : Said → Report
report_said (by_coordinator journal) = record { federate = 0; rows = []; journal = journal }
report_said (by_federate federate rows journal) = record { federate = federate; rows = rows; journal = journal }

pub one_report : (files : FileDigests) (s : Sources) (report other : Report) (bytes : List ℕ) → IsOfFederate files s report bytes → IsOfFederate files s other bytes → report ≡ other
one_report files s report other bytes (by_report h) (by_report k) =
    ap report_said (one_report_in files (taken.by_report report) (taken.by_report other) bytes h k)
one_report files s report other bytes (by_report h) (by_log log k is) = absurd (no_log files files (taken.by_report report) None RULES bytes log h k.is_log)
one_report files s report other bytes (by_log log h is) (by_report k) = absurd (no_log files files (taken.by_report other) None RULES bytes log k h.is_log)
one_report files s report other bytes (by_log log h is) (by_log more k also) =
    is ∙ ap (report_by s) (one_log files None RULES bytes log more h.is_log k.is_log) ∙ sym also
