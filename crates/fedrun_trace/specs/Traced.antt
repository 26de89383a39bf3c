-- All that is written of a schedule: a JSON array, with the tracks, and then the events of its steps and of those of
-- its closing rounds.
use Rattle.std.specs.Prelude.{◌≡◌, ℕ, List, ◌++◌, Option, Result, Ok, Err, codes}
use Rattle.std.specs.Io.KnownBytes.{Appends}
use Rattle.plan.specs.declared.draft.Draft.{Draft}
use Rattle.plan.specs.declared.input.Input.{Input}
use Rattle.plan.specs.Federation.{federate_count}
use Rattle.reactor_program.specs.Behaviour.{Behaviour}
use Rattle.world_stations.specs.Federation.{Federation, initial_world}
use Rattle.files_script.specs.Scripts.{Script}
use Rattle.files_text.specs.PlanText.{federate_name, printed_each}
use Rattle.fedrun_replay.specs.declared.fault.ReplayFault.{ReplayFault}
use Rattle.fedrun_replay.specs.declared.fault.ReplayFault.TheVariants.{World, CannotWrite}
use Rattle.fedrun_replay.specs.Play.{Made, after_lines}
use Rattle.fedrun_replay.specs.Closing.{MayMake, most_rounds, made_in_all}
use Rattle.fedrun_frames.specs.Shown.{unplayed, AreStepsOf}
use Rattle.fedrun_trace.specs.declared.tracks.TheConstants.{COORDINATOR}
use Rattle.fedrun_trace.specs.Tracks.{federate_track}
use Rattle.fedrun_trace.specs.Events.{track_text}
use Rattle.fedrun_trace.specs.Steps.{steps_text}

-- the beginning of the array: all tracks are one process, whose name says what the axis is
unfoldable pub opening : List ℕ
opening =
    codes "[\n{\"ph\":\"M\",\"name\":\"process_name\",\"pid\":1,\"tid\":1,\"ts\":0,\"args\":{\"name\":\"schedule: 1 us is one step\"}}"

-- federate j's track
abbrev pub federate_heading : Draft → (j : ℕ) → List ℕ
federate_heading d j = track_text (federate_track d j) (federate_name d j)

-- the beginning, and all tracks
unfoldable pub heading : Draft → List ℕ
heading d =
    opening ++ (track_text COORDINATOR (codes "coordinator") ++ printed_each (federate_heading d) (federate_count d))

-- what is written of these steps, made one after the other in a world
unfoldable pub trace_text : Draft → Federation → List Made → List ℕ
trace_text d w made = heading d ++ (steps_text d made 1 w made ++ codes "\n]\n")

-- a writer's bytes grew by a prefix of a text
pub record HasPrefix (text : List ℕ) (before after : Option (List ℕ)) : Type 0 where
  pub front : List ℕ
  pub rest : List ℕ
  pub is : text ≡ front ++ rest
  pub written : Appends before after front

-- they grew by what is written of the steps of a schedule and of its closing rounds, in a world of which nothing was
-- asked
pub record TracesSchedule (d : Draft) (programs : List Behaviour) (inputs : List Input) (s : Script)
    (closing : Option ℕ) (before after : Option (List ℕ)) : Type 0 where
  pub made : List Made
  pub are : AreStepsOf d programs inputs s closing made
  pub written : Appends before after (trace_text d (initial_world d programs inputs) made)

-- they grew by a prefix of that; by nothing where there was no memory for the player, which makes the steps first
pub record TracesSomeOf (d : Draft) (programs : List Behaviour) (inputs : List Input) (s : Script) (closing : Option ℕ)
    (before after : Option (List ℕ)) : Type 0 where
  pub rounds : ℕ
  pub may : MayMake (federate_count d) (most_rounds closing)
      (after_lines (federate_count d) s.lines (unplayed d programs inputs)) rounds
  pub some : HasPrefix (trace_text d (initial_world d programs inputs)
      (made_in_all (federate_count d) s rounds (unplayed d programs inputs))) before after

-- what stands after a text was to be written
abbrev pub HasTraced : {T : Type 0} → Result T ReplayFault → (text : List ℕ) → Option (List ℕ) → Option (List ℕ) → Type 0
HasTraced (Ok done) text before after = Appends before after text
HasTraced (Err (World memory)) text before after = HasPrefix text before after
HasTraced (Err CannotWrite) text before after = Unit {0}

-- for want of memory: a writer's bytes grew by a prefix of what is written of the schedule. What a writer holds after
-- it refused isn't known
abbrev pub IsBrokenOff : Draft → List Behaviour → List Input → Script → Option ℕ → Option (List ℕ) → Option (List ℕ)
    → ReplayFault → Type 0
IsBrokenOff d programs inputs s closing before after (World memory) =
    TracesSomeOf d programs inputs s closing before after
IsBrokenOff d programs inputs s closing before after CannotWrite = Unit {0}
