-- What is printed of a schedule that was played over the world of a federation, and why it isn't.
use Rattle.std.specs.Prelude.{◌≡◌, ◌⊎◌, ℕ, List, Option, Result, Err}
use Rattle.plan.specs.declared.draft.Draft.{Draft}
use Rattle.plan.specs.declared.input.Input.{Input}
use Rattle.reactor_program.specs.Behaviour.{Behaviour}
use Rattle.world_stations.specs.declared.memory.Memory as steps
use Rattle.files_script.specs.Scripts.{Script}
use Rattle.fedrun_words.specs.declared.fault.Fault.{Fault}
use Rattle.fedrun_words.specs.declared.fault.Fault.TheVariants.{CannotWrite, More}
use Rattle.fedrun_files.specs.declared.reading.Sources.{Sources}
use Rattle.fedrun_replay.specs.declared.fault.ReplayFault.{ReplayFault}
use Rattle.fedrun_replay.specs.declared.fault.ReplayFault.TheVariants as broken
use Rattle.fedrun_replay.specs.AsCsv.{IsReplayedIn, IsBrokenOffIn}
use Rattle.fedrun_frames.specs.Shown.{ShowsSchedule, IsBrokenOff}
use Rattle.fedrun_trace.specs.Traced as of_trace
use Rattle.fedrun_draw.specs.Drawn.{HasPicture, IsShort, IsFaultOf}
use Rattle.fedrun_draw.specs.declared.excerpt.Excerpt.{Excerpt}
use Rattle.fedrun_draw.specs.declared.fault.DrawFault.{DrawFault}
use Rattle.fedrun_commands.specs.declared.play.PlayOutput.{PlayOutput}
use Rattle.fedrun_commands.specs.declared.play.PlayOutput.TheVariants.{Rows, Frames, Trace, Picture}
use Rattle.fedrun_commands.specs.declared.fault.NodeFault.{NodeFault}
use Rattle.fedrun_commands.specs.declared.fault.NodeFault.TheVariants.{World, Undrawn}

-- a picture was printed of an excerpt of a schedule that isn't too long for one
pub record IsDrawn (d : Draft) (programs : List Behaviour) (inputs : List Input) (s : Script) (closing : Option ℕ)
    (excerpt : Excerpt) (before after : Option (List ℕ)) : Type 0 where
  pub picture : HasPicture before after
  pub short : IsShort d programs inputs s closing excerpt

-- what was asked for was printed of a schedule and its closing rounds: which steps were refused, and the rows; each
-- step, with the frames that it sent, or as trace events; or a picture
abbrev pub IsPlayedAs : PlayOutput → Draft → List Behaviour → List Input → Script → Option ℕ → Option (List ℕ)
    → Option (List ℕ) → Type 0
IsPlayedAs (Rows format) d programs inputs s closing before after =
    IsReplayedIn format d programs inputs s closing before after
IsPlayedAs Frames d programs inputs s closing before after = ShowsSchedule d programs inputs s closing before after
IsPlayedAs Trace d programs inputs s closing before after =
    of_trace.TracesSchedule d programs inputs s closing before after
IsPlayedAs (Picture excerpt) d programs inputs s closing before after =
    IsDrawn d programs inputs s closing excerpt before after

-- what stands where there was no memory for a step: what was printed of the steps before it
abbrev pub IsBrokenOffAs : PlayOutput → Draft → List Behaviour → List Input → Script → Option ℕ → Option (List ℕ)
    → Option (List ℕ) → ReplayFault → Type 0
IsBrokenOffAs (Rows format) d programs inputs s closing before after fault =
    IsBrokenOffIn format d programs inputs s closing before after fault
IsBrokenOffAs Frames d programs inputs s closing before after fault =
    IsBrokenOff d programs inputs s closing before after fault
IsBrokenOffAs Trace d programs inputs s closing before after fault =
    of_trace.IsBrokenOff d programs inputs s closing before after fault
IsBrokenOffAs (Picture excerpt) d programs inputs s closing before after fault = ⊥

-- why a schedule that came to this isn't played to its end or isn't printed: it can't be written, or there was no
-- memory for a step
abbrev pub IsBreakingOff : Result (Unit {0}) ReplayFault → Fault NodeFault → Type 0
IsBreakingOff played fault =
    (fault ≡ CannotWrite) ⊎ ((memory : steps.Memory) × (played ≡ Err (broken.World memory)) × (fault ≡ More (World memory)))

-- a picture isn't drawn for this reason, and nothing was printed
abbrev pub IsUndrawnAs : PlayOutput → Draft → List Behaviour → List Input → Script → Option ℕ → DrawFault → Type 0
IsUndrawnAs (Rows format) d programs inputs s closing fault = ⊥
IsUndrawnAs Frames d programs inputs s closing fault = ⊥
IsUndrawnAs Trace d programs inputs s closing fault = ⊥
IsUndrawnAs (Picture excerpt) d programs inputs s closing fault = IsFaultOf d programs inputs s closing excerpt fault

-- why a schedule isn't played to its end or isn't printed, once all was loaded: there was no memory for a step; a
-- picture isn't drawn; or it can't be written
pub data IsPlayFault (output : PlayOutput) (s : Sources) (script : Script) (closing : Option ℕ)
    (before after : Option (List ℕ)) (fault : Fault NodeFault) : Type 0 where
  no_memory : (memory : steps.Memory) → fault ≡ More (World memory)
      → IsBrokenOffAs output s.plan s.programs s.inputs script closing before after (broken.World memory)
      → IsPlayFault output s script closing before after fault
  undrawn : (why : DrawFault) → fault ≡ More (Undrawn why)
      → IsUndrawnAs output s.plan s.programs s.inputs script closing why → after ≡ before
      → IsPlayFault output s script closing before after fault
  unwritten : fault ≡ CannotWrite → IsPlayFault output s script closing before after fault
