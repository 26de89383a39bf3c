-- Which fault stands where nothing more is printed: in the words, in the files of the request, or after all was loaded.
-- What a writer holds before and after is said of faults that come after that.
use Rattle.std.specs.Prelude.{◌≡◌, ℕ, ◌⊎◌, List, [], ◌∷◌, ◌++◌, Option, IfSome}
use Rattle.std.specs.Borrow.{Bor}
use Rattle.plan.specs.declared.draft.Draft.{Draft}
use Rattle.files_script.specs.declared.fault.ScriptFault.{ScriptFault}
use Rattle.files_script.specs.declared.script.TheConstants.{MOST_BYTES}
use Rattle.files_script.specs.Scripts.{IsFaultOf as IsScriptFault}
use Rattle.fedrun_words.specs.declared.fault.Fault.{Fault}
use Rattle.fedrun_words.specs.declared.fault.Fault.TheVariants.{CannotWrite, More}
use Rattle.fedrun_files.specs.Answers.{Answer, given}
use Rattle.fedrun_files.specs.Contents.{Contents}
use Rattle.fedrun_files.specs.declared.reading.Sources.{Sources}
use Rattle.reactor_program.specs.Behaviour.{Behaviour}
use Rattle.fedrun_files.specs.Loaded.{input_file, IsFederation, HoldsOfSources}
use Rattle.fedrun_files.specs.Refused.{asked_sources, IsUnread, IsFederationFault, IsSourcesFault}
use Rattle.fedrun_draw.specs.Drawn.{IsInterrupted}
use Rattle.fedrun_draw.specs.declared.fault.DrawFault.{DrawFault}
use Rattle.fedrun_run.specs.Printed.{IsAuditFailure}
use Rattle.fedrun_run.specs.declared.audit_failure.AuditFailure.{AuditFailure}
use Rattle.desk.specs.declared.memory.Memory as run
use Rattle.wires.specs.declared.run_fault.Cause.{Cause}
use Rattle.fedrun_whole.specs.Refused as every
use Rattle.fedrun_whole.specs.Refused.{IsWholeFault, IsCheckFault}
use Rattle.fedrun_words.specs.declared.request.Request.{Request}
use Rattle.fedrun_words.specs.declared.request.Request.TheVariants.{Whole, Check, Replay, Run as RunOf, Record}
use Rattle.fedrun_words.specs.declared.request.Request.TheVariants.{Frames, DrawFederation, DrawSchedule, Audit, Lint}
use Rattle.fedrun_words.specs.declared.request.Request.TheVariants.{Trace, About}
use Rattle.fedrun_words.specs.declared.request.AboutRequest.{AboutRequest}
use Rattle.fedrun_words.specs.Pieces.{AppendsPrefix}
use Rattle.fedrun_help.specs.About.{about_text}
use Rattle.fedrun_commands.specs.Asked.{as_replay, as_frames, as_trace, as_picture, as_rows, as_steps}
use Rattle.fedrun_commands.specs.ReportFiles.{IsFaultOfReports}
use Rattle.fedrun_commands.specs.declared.play.Play.{Play}
use Rattle.fedrun_commands.specs.Linted.{IsLintFault}
use Rattle.fedrun_commands.specs.Played.{IsPlayFault}
use Rattle.fedrun_commands.specs.Schedules.{HoldsOfSchedule}
use Rattle.fedrun_commands.specs.declared.fault.NodeFault.{NodeFault}
use Rattle.fedrun_commands.specs.declared.fault.NodeFault.TheVariants as of_nodes
use Rattle.fedrun_commands.specs.declared.fault.NodeFault.TheVariants.{Schedule, Undrawn, NotFinished, Unproved}
use Rattle.fedrun_commands.specs.declared.running.Run.{Run}

-- why the schedule file isn't taken, for this federation
pub data IsScheduleFault (d : Draft) (name : Bor (List ℕ)) (contents : Contents) (answered : List Answer → Type 0)
    (fault : Fault NodeFault) : Type 0 where
  schedule_unread : IsUnread MOST_BYTES name (contents name.now) answered fault
      → IsScheduleFault d name contents answered fault
  schedule_refused : answered (given name.now ∷ []) → (why : ScriptFault) → fault ≡ More (Schedule why)
      → IfSome (contents name.now) (λ bytes. IsScriptFault d bytes why) → IsScheduleFault d name contents answered fault

-- a run isn't finished, reports of it can't be believed, or there was no memory for it
abbrev pub IsUnprintedRun : Sources → Fault NodeFault → Type 0
IsUnprintedRun s fault =
    ((cause : Cause) × (fault ≡ More (NotFinished cause)))
    ⊎ (((failure : AuditFailure) × (fault ≡ More (Unproved failure))
    × IsAuditFailure s.plan s.programs s.inputs failure)
    ⊎ ((memory : run.Memory) × (fault ≡ More (of_nodes.Run memory))))

-- why a picture of a federation isn't printed, once it was loaded: it isn't drawn for want of memory, and nothing was
-- printed; or it can't be written
abbrev pub IsPictureFault : Option (List ℕ) → Option (List ℕ) → Fault NodeFault → Type 0
IsPictureFault before after fault =
    ((why : DrawFault) × (fault ≡ More (Undrawn why)) × IsInterrupted why × (after ≡ before)) ⊎ (fault ≡ CannotWrite)

-- why a run isn't printed, once all was loaded: it can't be written; or it isn't finished, an audit doesn't believe it,
-- or there was no memory for it, and then nothing is written
abbrev pub IsRunFault : Sources → Option (List ℕ) → Option (List ℕ) → Fault NodeFault → Type 0
IsRunFault s before after fault = (fault ≡ CannotWrite) ⊎ (IsUnprintedRun s fault × (after ≡ before))

-- why a run of the federation in a file isn't printed, and what was answered about files till then: the federation
-- file's fault comes first, then the input file's
abbrev pub IsFaultOfRun : Run → Contents → (List Answer → Type 0) → Option (List ℕ) → Option (List ℕ)
    → Fault NodeFault → Type 0
IsFaultOfRun run contents answered before after fault =
    IsSourcesFault run.federation run.inputs contents answered fault
    ⊎ (answered (asked_sources run.federation.now run.inputs.now)
    × HoldsOfSources (contents run.federation.now) (input_file contents run.inputs.now)
    (λ s. IsRunFault s before after fault))

-- why a schedule isn't played or printed, and what was answered about files till then: the federation file's fault
-- comes first, then the input file's, then the schedule's
abbrev pub IsFaultOfPlay : Play → Contents → (List Answer → Type 0) → Option (List ℕ) → Option (List ℕ)
    → Fault NodeFault → Type 0
IsFaultOfPlay play contents answered before after fault =
    IsSourcesFault play.federation play.inputs contents answered fault
    ⊎ HoldsOfSources (contents play.federation.now) (input_file contents play.inputs.now)
    (λ s. IsScheduleFault s.plan play.schedule contents
    (λ later. answered (asked_sources play.federation.now play.inputs.now ++ later)) fault
    ⊎ (answered (asked_sources play.federation.now play.inputs.now ++ given play.schedule.now ∷ [])
    × HoldsOfSchedule (contents play.schedule.now) s.plan
    (λ script. IsPlayFault play.output s script play.until_stuck before after fault)))

-- the federation file is taken, and this fault comes after it
pub record IsLateDrawFault (federation before after : Option (List ℕ)) (fault : Fault NodeFault) : Type 0 where
  pub draft : Draft
  pub programs : List Behaviour
  pub federation_is : IsFederation federation draft programs
  pub later : IsPictureFault before after fault

-- why a picture of the federation in a file isn't printed, and what was answered about files till then
abbrev pub IsDrawFault : Contents → (List Answer → Type 0) → Option (List ℕ) → Option (List ℕ) → Bor (List ℕ)
    → Fault NodeFault → Type 0
IsDrawFault contents answered before after federation fault =
    IsFederationFault federation contents answered fault
    ⊎ (answered (given federation.now ∷ []) × IsLateDrawFault (contents federation.now) before after fault)

-- why what the program says of its own commands isn't printed: it can't be written
pub record IsAboutFault (asked : AboutRequest) (before after : Option (List ℕ)) (fault : Fault NodeFault) : Type 0 where
  pub is : fault ≡ CannotWrite
  pub begun : AppendsPrefix before after (about_text asked)

-- why this request isn't done, and what was answered about files till then
abbrev pub IsFaultOf : Contents → (List Answer → Type 0) → Option (List ℕ) → Option (List ℕ) → Request
    → Fault NodeFault → Type 0
IsFaultOf contents answered before after (Whole asked) fault = IsWholeFault contents answered before after asked fault
IsFaultOf contents answered before after (Check asked) fault = IsCheckFault contents answered before after asked fault
IsFaultOf contents answered before after (Replay asked) fault =
    IsFaultOfPlay (as_replay asked) contents answered before after fault
IsFaultOf contents answered before after (Frames asked) fault =
    IsFaultOfPlay (as_frames asked) contents answered before after fault
IsFaultOf contents answered before after (Trace asked) fault =
    IsFaultOfPlay (as_trace asked) contents answered before after fault
IsFaultOf contents answered before after (DrawSchedule asked) fault =
    IsFaultOfPlay (as_picture asked) contents answered before after fault
IsFaultOf contents answered before after (DrawFederation asked) fault =
    IsDrawFault contents answered before after asked.federation fault
IsFaultOf contents answered before after (RunOf asked) fault =
    IsFaultOfRun (as_rows asked) contents answered before after fault
IsFaultOf contents answered before after (Record asked) fault =
    IsFaultOfRun (as_steps asked) contents answered before after fault
IsFaultOf contents answered before after (Audit asked) fault =
    IsFaultOfReports contents answered before after asked fault
IsFaultOf contents answered before after (Lint asked) fault = IsLintFault contents answered before after asked fault
IsFaultOf contents answered before after (About asked) fault =
    answered [] × IsAboutFault asked before after fault

-- the fault is one of words, and no file was asked for, or it stands against some request
abbrev pub Stands : Contents → (List Answer → Type 0) → Option (List ℕ) → Option (List ℕ) → Fault NodeFault → Type 0
Stands = every.Stands IsFaultOf
