-- What is printed of a run that an audit proved, and what stands where nothing is.
use Rattle.std.specs.Prelude.{◌≡◌, ◌⊎◌, ℕ, ◌<◌, List, ◌++◌, Option}
use Rattle.std.specs.Io.KnownBytes.{Appends}
use Rattle.network.specs.Undivided.{whole, part}
use Rattle.network_laws.specs.Settled.{BeginsWith}
use Rattle.protocol_laws.specs.Rows.{HasEveryRow}
use Rattle.plan.specs.declared.draft.Draft.{Draft}
use Rattle.plan.specs.declared.input.Input.{Input}
use Rattle.plan.specs.Federation.{federate_count}
use Rattle.reactor_program.specs.Behaviour.{Behaviour}
use Rattle.plan_network.specs.Network.{network_of}
use Rattle.node.specs.declared.event.Event.{Event}
use Rattle.world_stations.specs.declared.step.Step.{Step}
use Rattle.files_text.specs.declared.row_format.RowFormat.{RowFormat}
use Rattle.files_text.specs.Formats.{heading, formatted_rows}
use Rattle.files_text.specs.PlanText.{printed_each}
use Rattle.files_record.specs.StepText.{printed_steps}
use Rattle.wires.specs.declared.threads.RunResults.{RunResults}
use Rattle.wires.specs.declared.run_fault.Cause.{Cause}
use Rattle.wires.specs.declared.run_fault.Cause.TheVariants.{TurnsUsedUp}
use Rattle.wires.specs.declared.run_fault.RunFault.{RunFault}
use Rattle.wires.specs.declared.run_fault.RunFault.TheVariants as run
use Rattle.recorder_reports.specs.declared.report.Report.{Report}
use Rattle.recorder_reports.specs.declared.unproved.Unproved.{Unproved}
use Rattle.recorder_reports.specs.Reports.{reported_rows}
use Rattle.recorder.specs.Audited.{Claim, IsProvedBy, IsFinishedBy, IsUnproved}
use Rattle.fedrun_run.specs.declared.audit_failure.AuditFailure.{AuditFailure}
use Rattle.fedrun_run.specs.declared.output.RunOutput.{RunOutput}
use Rattle.fedrun_run.specs.declared.output.RunOutput.TheVariants.{Rows, Steps}
use Rattle.fedrun_run.specs.declared.fault.AuditedFault.{AuditedFault}
use Rattle.fedrun_run.specs.declared.fault.AuditedFault.TheVariants as fault
use Rattle.fedrun_run.specs.AuditFailures.{IsFailureOf}
use Rattle.fedrun_run.specs.Reported.{AreReportedBy}

-- what is audited: the federation's reports and its coordinator's journal
abbrev pub claim : Draft → List Behaviour → List Input → List Report → List Event → Claim
claim d programs inputs reports coordinator =
    record { draft = d; programs = programs; inputs = inputs; reports = reports; coordinator = coordinator }

-- the rows that each federate reports, federate by federate, in a format
abbrev pub printed_reports : RowFormat → Draft → List Report → List ℕ
printed_reports format d reports =
    heading format ++ printed_each (λ j. formatted_rows format d.federates (reported_rows reports j)) (federate_count d)

-- what is printed of reports that these steps prove: their rows, or the steps as a schedule file
abbrev pub printed_run : RunOutput → Draft → List Report → List Step → List ℕ
printed_run (Rows format) d reports steps = printed_reports format d reports
printed_run Steps d reports steps = printed_steps d steps

-- where rows are printed, this text is those that are
abbrev pub IsTextOf : RunOutput → Draft → List Report → List ℕ → Type 0
IsTextOf (Rows format) d reports text = text ≡ printed_reports format d reports
IsTextOf Steps d reports text = ⊥

-- a writer's bytes grew by what is printed of these reports, which an audit proved with this journal of the
-- coordinator:
pub record PrintsReports (output : RunOutput) (d : Draft) (programs : List Behaviour) (inputs : List Input)
    (reports : List Report) (coordinator : List Event) (before after : Option (List ℕ)) : Type 0 where
  pub steps : List Step
  -- these steps of the federation's world give each federate's journal and rows as it reports them, and the
  -- coordinator's journal
  pub proved : IsProvedBy (claim d programs inputs reports coordinator) steps
  -- that journal gives a finished coordinator
  pub finished : IsFinishedBy (claim d programs inputs reports coordinator)
  -- so each federate's rows are rows of its part of what the undivided program computes, in their order, from the first
  -- on
  pub prefix : (j : ℕ) → j < federate_count d →
      (turns : ℕ) × BeginsWith (part j (whole (network_of d programs inputs) turns)) (reported_rows reports j)
  -- and none of that part is missing
  pub whole_part : (j : ℕ) → j < federate_count d
      → HasEveryRow (network_of d programs inputs) j (reported_rows reports j)
  -- they are printed, federate by federate, or these very steps are
  pub printed : Appends before after (printed_run output d reports steps)

-- the same of the reports and the coordinator's journal that a run's nodes gave, from what all its workers left
pub record PrintsAudited (output : RunOutput) (d : Draft) (programs : List Behaviour) (inputs : List Input)
    (before after : Option (List ℕ)) : Type 0 where
  pub left : RunResults
  pub reports : List Report
  pub coordinator : List Event
  pub reported : AreReportedBy left reports coordinator
  pub prints : PrintsReports output d programs inputs reports coordinator before after

-- an audit doesn't believe these reports with this journal of the coordinator, and answers this failure
pub record IsAuditFailureOf (d : Draft) (programs : List Behaviour) (inputs : List Input) (reports : List Report)
    (coordinator : List Event) (failure : AuditFailure) : Type 0 where
  pub fault : Unproved
  pub unproved : IsUnproved (claim d programs inputs reports coordinator) fault
  pub answered : IsFailureOf d fault failure

-- the same of the reports and the coordinator's journal that a run's nodes gave, from what all its workers left
pub record IsAuditFailure (d : Draft) (programs : List Behaviour) (inputs : List Input)
    (failure : AuditFailure) : Type 0 where
  pub left : RunResults
  pub reports : List Report
  pub coordinator : List Event
  pub reported : AreReportedBy left reports coordinator
  pub fails : IsAuditFailureOf d programs inputs reports coordinator failure

-- these reports are proved, and this journal doesn't give a finished coordinator
pub record IsUnfinished (d : Draft) (programs : List Behaviour) (inputs : List Input) (reports : List Report)
    (coordinator : List Event) : Type 0 where
  pub steps : List Step
  pub proved : IsProvedBy (claim d programs inputs reports coordinator) steps
  pub unfinished : ¬ IsFinishedBy (claim d programs inputs reports coordinator)

-- why nothing is printed of these reports, with this journal of the coordinator, or not all of it. Of the output
-- nothing is asked; an audit that is out of memory is among its failures
abbrev pub IsAuditedFaultOf : Draft → List Behaviour → List Input → List Report → List Event → AuditedFault → Type 0
IsAuditedFaultOf d programs inputs reports coordinator (fault.Unproved failure) =
    IsAuditFailureOf d programs inputs reports coordinator failure
IsAuditedFaultOf d programs inputs reports coordinator (fault.NotFinished cause) =
    (cause ≡ TurnsUsedUp) × IsUnfinished d programs inputs reports coordinator
IsAuditedFaultOf d programs inputs reports coordinator fault.Memory = ⊥
IsAuditedFaultOf d programs inputs reports coordinator fault.CannotWrite = Unit {0}

-- why nothing is printed of a run, or not all of it. Of the machine, its memory and how far a run came nothing is asked
abbrev pub IsAuditedFault : Draft → List Behaviour → List Input → AuditedFault → Type 0
IsAuditedFault d programs inputs (fault.Unproved failure) = IsAuditFailure d programs inputs failure
IsAuditedFault d programs inputs (fault.NotFinished cause) = Unit {0}
IsAuditedFault d programs inputs fault.Memory = Unit {0}
IsAuditedFault d programs inputs fault.CannotWrite = Unit {0}

-- why a run gives no desks, as the fault that is printed
abbrev pub fault_of_run : RunFault → AuditedFault
fault_of_run (run.NotFinished cause) = fault.NotFinished cause
fault_of_run run.Memory = fault.Memory

-- the fault of a run whose nodes give nothing to audit
abbrev pub IsOfTheRun : AuditedFault → Type 0
IsOfTheRun answered = ((cause : Cause) × (answered ≡ fault.NotFinished cause)) ⊎ (answered ≡ fault.Memory)
