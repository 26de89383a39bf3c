-- What is printed of nodes' files that an audit proves, reports or logs, and why nothing is. What a file holds is said
-- where its bytes are known.
use Rattle.std.specs.Prelude.{◌≡◌, ℕ, ◌⊎◌, List, [], ◌∷◌, ◌++◌, map, Option, IfSome}
use Rattle.std.specs.Borrow.{Bor}
use Rattle.node.specs.declared.event.Event.{Event}
use Rattle.plan.specs.Federation.{federate_count}
use Rattle.recorder_reports.specs.declared.report.Report.{Report}
use Rattle.desk.specs.declared.memory.Memory as run
use Rattle.wires.specs.declared.run_fault.Cause.TheVariants.{TurnsUsedUp}
use Rattle.files_reports.specs.declared.file_digests.FileDigests.{FileDigests}
use Rattle.files_reports.specs.declared.layout.TheConstants.{LONGEST_REPORT}
use Rattle.fedrun_reports.specs.declared.node_file_fault.NodeFileFault.{NodeFileFault}
use Rattle.fedrun_reports.specs.Files.{IsOfCoordinator, IsOfFederate, IsCoordinatorFault, IsFederateFault}
use Rattle.fedrun_run.specs.declared.audit_failure.AuditFailure.{AuditFailure}
use Rattle.fedrun_run.specs.declared.output.RunOutput.TheVariants.{Rows}
use Rattle.fedrun_run.specs.Printed.{IsAuditFailureOf, IsUnfinished, PrintsReports}
use Rattle.fedrun_words.specs.declared.request.AuditRequest.{AuditRequest}
use Rattle.fedrun_words.specs.declared.fault.Fault.{Fault}
use Rattle.fedrun_words.specs.declared.fault.Fault.TheVariants.{CannotWrite, More}
use Rattle.fedrun_files.specs.Answers.{Answer, given}
use Rattle.fedrun_files.specs.Contents.{Contents, AreBytesOf}
use Rattle.fedrun_files.specs.Digests.{AreDigestsOf}
use Rattle.fedrun_files.specs.declared.reading.Sources.{Sources}
use Rattle.fedrun_files.specs.Loaded.{input_file, AreSources}
use Rattle.fedrun_files.specs.Refused.{asked_sources, IsUnread, IsSourcesFault}
use Rattle.fedrun_commands.specs.declared.fault.NodeFault.{NodeFault}
use Rattle.fedrun_commands.specs.declared.fault.NodeFault.TheVariants.{ReportFile, NotFinished, Unproved, Run}

-- names of files, as they were given
abbrev pub Names : Type 0
Names = List (Bor (List ℕ))

-- the file is the coordinator's of a run of these files, with this journal
abbrev pub IsCoordinatorFile : FileDigests → Option (List ℕ) → List Event → Type 0
IsCoordinatorFile digests known journal =
    (bytes : List ℕ) × AreBytesOf known bytes × IsOfCoordinator digests journal bytes

-- the file is this report of a federate, or the log that reports so
abbrev pub IsFederateFile : FileDigests → Sources → Option (List ℕ) → Report → Type 0
IsFederateFile digests s known report =
    (bytes : List ℕ) × AreBytesOf known bytes × IsOfFederate digests s report bytes

-- the files of these names are these reports, in this order
pub data AreFederateFiles (contents : Contents) (digests : FileDigests) (s : Sources) : Names → List Report → Type 0 where
  no_file : AreFederateFiles contents digests s [] []
  one_more : {names : Names} {reports : List Report} (name : Bor (List ℕ)) (report : Report)
      → AreFederateFiles contents digests s names reports
      → IsFederateFile digests s (contents name.now) report
      → AreFederateFiles contents digests s (names ++ name ∷ []) (reports ++ report ∷ [])

-- the answers about files of these names, each given
abbrev pub all_given : Names → List Answer
all_given names = map (λ name. given name.now) names

-- all that an audit is made of: the federation and recorded inputs, and the reports of a run of them
pub record AreReported (contents : Contents) (asked : AuditRequest) (s : Sources) (reports : List Report)
    (journal : List Event) : Type 0 where
  pub sources_are : AreSources (contents asked.federation.now) (input_file contents asked.inputs.now) s
  pub digests : FileDigests
  pub digests_are : AreDigestsOf (contents asked.federation.now) (input_file contents asked.inputs.now)
      digests.federation digests.inputs
  pub coordinator_is : IsCoordinatorFile digests (contents asked.coordinator.now) journal
  pub federates_are : AreFederateFiles contents digests s asked.federates.items reports

-- the rows of reports that are proved were printed: of each federate its whole part of the undivided program's rows,
-- and no other
pub record PrintsReportFiles (contents : Contents) (asked : AuditRequest)
    (before after : Option (List ℕ)) : Type 0 where
  pub sources : Sources
  pub reports : List Report
  pub journal : List Event
  pub reported : AreReported contents asked sources reports journal
  pub prints : PrintsReports (Rows asked.format) sources.plan sources.programs sources.inputs reports journal
      before after

-- why the coordinator's file isn't taken
pub data IsCoordinatorFileFault (digests : FileDigests) (name : Bor (List ℕ)) (contents : Contents)
    (answered : List Answer → Type 0) (fault : Fault NodeFault) : Type 0 where
  coordinator_unread : IsUnread LONGEST_REPORT name (contents name.now) answered fault
      → IsCoordinatorFileFault digests name contents answered fault
  coordinator_refused : answered (given name.now ∷ []) → (why : NodeFileFault) → fault ≡ More (ReportFile name why)
      → IfSome (contents name.now) (λ bytes. IsCoordinatorFault digests bytes why)
      → IsCoordinatorFileFault digests name contents answered fault

-- why a federate's file isn't taken, beside the reports before it
pub data IsFederateFileFault (digests : FileDigests) (s : Sources) (reports : List Report) (name : Bor (List ℕ))
    (contents : Contents) (answered : List Answer → Type 0) (fault : Fault NodeFault) : Type 0 where
  federate_unread : IsUnread LONGEST_REPORT name (contents name.now) answered fault
      → IsFederateFileFault digests s reports name contents answered fault
  federate_refused : answered (given name.now ∷ []) → (why : NodeFileFault) → fault ≡ More (ReportFile name why)
      → IfSome (contents name.now) (λ bytes.
      IsFederateFault (record { count = federate_count s.plan; reports = reports }) digests s bytes why)
      → IsFederateFileFault digests s reports name contents answered fault

-- why the first of these files that isn't taken isn't: all before it are
pub record IsFirstFileFault (digests : FileDigests) (s : Sources) (names : Names) (contents : Contents)
    (answered : List Answer → Type 0) (fault : Fault NodeFault) : Type 0 where
  pub taken : Names
  pub name : Bor (List ℕ)
  pub later : Names
  pub in_order : names ≡ taken ++ name ∷ later
  pub reports : List Report
  pub are_taken : AreFederateFiles contents digests s taken reports
  pub refused : IsFederateFileFault digests s reports name contents
      (λ last. answered (all_given taken ++ last)) fault

-- why reports that are all taken aren't printed: they can't be written; or an audit doesn't believe them, the
-- coordinator isn't finished by its journal, or there was no memory to begin the audit, and then nothing is written
abbrev pub IsUnprinted : Sources → List Report → List Event → Option (List ℕ) → Option (List ℕ)
    → Fault NodeFault → Type 0
IsUnprinted s reports journal before after fault =
    (fault ≡ CannotWrite)
    ⊎ ((((failure : AuditFailure) × (fault ≡ More (Unproved failure))
    × IsAuditFailureOf s.plan s.programs s.inputs reports journal failure)
    ⊎ (((fault ≡ More (NotFinished TurnsUsedUp)) × IsUnfinished s.plan s.programs s.inputs reports journal)
    ⊎ ((memory : run.Memory) × (fault ≡ More (Run memory)))))
    × (after ≡ before))

-- why an audit of report files prints nothing, or not all, and what was answered about files till then: files are read
-- in the order in which they are named, and the first that isn't taken is told
pub data IsFaultOfReports (contents : Contents) (answered : List Answer → Type 0) (before after : Option (List ℕ))
    (asked : AuditRequest) (fault : Fault NodeFault) : Type 0 where
  of_sources : IsSourcesFault asked.federation asked.inputs contents answered fault
      → IsFaultOfReports contents answered before after asked fault
  of_coordinator : (s : Sources) → AreSources (contents asked.federation.now) (input_file contents asked.inputs.now) s
      → (digests : FileDigests)
      → AreDigestsOf (contents asked.federation.now) (input_file contents asked.inputs.now) digests.federation
      digests.inputs
      → IsCoordinatorFileFault digests asked.coordinator contents
      (λ later. answered (asked_sources asked.federation.now asked.inputs.now ++ later)) fault
      → IsFaultOfReports contents answered before after asked fault
  of_federates : (s : Sources) → AreSources (contents asked.federation.now) (input_file contents asked.inputs.now) s
      → (digests : FileDigests)
      → AreDigestsOf (contents asked.federation.now) (input_file contents asked.inputs.now) digests.federation
      digests.inputs
      → IsFirstFileFault digests s asked.federates.items contents
      (λ later. answered (asked_sources asked.federation.now asked.inputs.now
      ++ (given asked.coordinator.now ∷ [] ++ later))) fault
      → IsFaultOfReports contents answered before after asked fault
  of_audit : (s : Sources) (reports : List Report) (journal : List Event)
      → AreReported contents asked s reports journal
      → answered (asked_sources asked.federation.now asked.inputs.now
      ++ (given asked.coordinator.now ∷ all_given asked.federates.items))
      → IsUnprinted s reports journal before after fault
      → IsFaultOfReports contents answered before after asked fault
