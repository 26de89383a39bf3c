-- What the program prints where all went well.
use Rattle.std.specs.Prelude.{ℕ, false, List, Option}
use Rattle.std.specs.Io.KnownBytes.{Appends}
use Rattle.fedrun_files.specs.Contents.{Contents}
use Rattle.plan.specs.declared.draft.Draft.{Draft}
use Rattle.reactor_program.specs.Behaviour.{Behaviour}
use Rattle.fedrun_files.specs.Loaded.{input_file, IsFederation, HoldsOfSources}
use Rattle.fedrun_whole.specs.Printed as every
use Rattle.fedrun_whole.specs.Printed.{PrintsWhole, PrintsPlan}
use Rattle.fedrun_run.specs.Printed.{PrintsAudited}
use Rattle.fedrun_draw.specs.Drawn.{HasPicture}
use Rattle.fedrun_commands.specs.declared.play.Play.{Play}
use Rattle.fedrun_commands.specs.declared.running.Run.{Run}
use Rattle.fedrun_commands.specs.Asked.{as_replay, as_frames, as_trace, as_picture, as_rows, as_steps}
use Rattle.fedrun_commands.specs.Linted.{PrintsLint}
use Rattle.fedrun_commands.specs.Played.{IsPlayedAs}
use Rattle.fedrun_commands.specs.Schedules.{HoldsOfSchedule}
use Rattle.fedrun_words.specs.declared.request.Request.{Request}
use Rattle.fedrun_words.specs.declared.request.Request.TheVariants.{Whole, Check, Replay, Run as RunOf, Record}
use Rattle.fedrun_words.specs.declared.request.Request.TheVariants.{Frames, DrawFederation, DrawSchedule, Audit, Lint}
use Rattle.fedrun_words.specs.declared.request.Request.TheVariants.{Trace, About}
use Rattle.fedrun_words.specs.declared.request.AboutRequest.{AboutRequest}
use Rattle.fedrun_help.specs.About.{about_text}
use Rattle.fedrun_commands.specs.ReportFiles.{PrintsReportFiles}

-- of a run of the federation in a file, with the recorded inputs in another, this was printed: the rows that an audit
-- proved, or the steps by which it did, as a schedule
abbrev pub PrintsRun : Run → Contents → Option (List ℕ) → Option (List ℕ) → Type 0
PrintsRun run contents before after =
    HoldsOfSources (contents run.federation.now) (input_file contents run.inputs.now)
    (λ s. PrintsAudited run.output s.plan s.programs s.inputs before after)

-- of the schedule in a third file, played over that federation's world, and its closing rounds, this was printed
abbrev pub PrintsPlayed : Play → Contents → Option (List ℕ) → Option (List ℕ) → Type 0
PrintsPlayed play contents before after =
    HoldsOfSources (contents play.federation.now) (input_file contents play.inputs.now)
    (λ s. HoldsOfSchedule (contents play.schedule.now) s.plan
    (λ script. IsPlayedAs play.output s.plan s.programs s.inputs script play.until_stuck before after))

-- a picture was printed, and the file is a federation
pub record PrintsPicture (federation before after : Option (List ℕ)) : Type 0 where
  pub draft : Draft
  pub programs : List Behaviour
  pub federation_is : IsFederation federation draft programs
  pub picture : HasPicture before after

-- what is asked for of the commands that there are was printed
abbrev pub PrintsAbout : AboutRequest → Option (List ℕ) → Option (List ℕ) → Type 0
PrintsAbout asked before after = Appends before after (about_text asked)

-- what this request prints where it is done, of the federation in a file with the recorded inputs in another: the rows
-- of the undivided program; the plan; of a schedule that is played which steps are refused, and the rows, each step
-- with its frames, a trace, or a picture; the rows of a run that an audit proved, or its steps; a picture of the
-- federation; the rows that report files prove; what is odd in files in which nothing is wrong; what the program says of
-- its own commands
abbrev pub PrintsFor : Contents → Request → Option (List ℕ) → Option (List ℕ) → Type 0
PrintsFor contents (Whole asked) before after = PrintsWhole contents asked before after
PrintsFor contents (Check asked) before after = PrintsPlan (contents asked.federation.now) before after
PrintsFor contents (Replay asked) before after = PrintsPlayed (as_replay asked) contents before after
PrintsFor contents (Frames asked) before after = PrintsPlayed (as_frames asked) contents before after
PrintsFor contents (Trace asked) before after = PrintsPlayed (as_trace asked) contents before after
PrintsFor contents (DrawSchedule asked) before after = PrintsPlayed (as_picture asked) contents before after
PrintsFor contents (DrawFederation asked) before after = PrintsPicture (contents asked.federation.now) before after
PrintsFor contents (RunOf asked) before after = PrintsRun (as_rows asked) contents before after
PrintsFor contents (Record asked) before after = PrintsRun (as_steps asked) contents before after
PrintsFor contents (Audit asked) before after = PrintsReportFiles contents asked before after
PrintsFor contents (Lint asked) before after = PrintsLint contents asked false before after
PrintsFor contents (About asked) before after = PrintsAbout asked before after

-- what some request asks for was printed
abbrev pub PrintsAnswer : Contents → Option (List ℕ) → Option (List ℕ) → Type 0
PrintsAnswer = every.PrintsAnswer PrintsFor
