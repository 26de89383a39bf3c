-- All that a replay prints: the refused steps, how the closing rounds ended, and each federate's history.
use Rattle.std.specs.Prelude.{◌↔◌, ℕ, Bool, IsTrue, if◌then◌else◌, List, [], ◌++◌, Option, None, Some, codes}
use Rattle.std.specs.Fmt.{decimal}
use Rattle.std.specs.Io.KnownBytes.{Appends}
use Rattle.plan.specs.declared.draft.Draft.{Draft}
use Rattle.plan.specs.declared.input.Input.{Input}
use Rattle.plan.specs.Federation.{federate_count}
use Rattle.reactor_program.specs.Behaviour.{Behaviour}
use Rattle.world_stations.specs.Kept.{is_kept}
use Rattle.world_stations.specs.Federation.{IsStuck, rows_in}
use Rattle.files_text.specs.declared.row_format.RowFormat.{RowFormat}
use Rattle.files_text.specs.declared.row_format.RowFormat.TheVariants.{Text, Csv}
use Rattle.files_text.specs.Formats.{formatted_rows}
use Rattle.files_text.specs.PlanText.{federate_name, printed_each}
use Rattle.world.specs.World.{WorldView, stations_of}
use Rattle.world.specs.Faithful.{IsFaithful}
use Rattle.fedrun_replay.specs.declared.fault.ReplayFault.{ReplayFault}
use Rattle.fedrun_replay.specs.declared.fault.ReplayFault.TheVariants.{World, CannotWrite}
use Rattle.files_script.specs.Scripts.{Script}
use Rattle.fedrun_replay.specs.Play.{unasked_player}
use Rattle.fedrun_replay.specs.Closing.{PlaysSchedule, PlaysSomeOf}
use Rattle.fedrun_replay.specs.Enough.{AsksForEnough, EndsWithEveryRow}

-- that federate j forgot; among comma-separated values nothing says so
abbrev pub forgotten : RowFormat → Draft → ℕ → List ℕ
forgotten Text d j = federate_name d j ++ codes " forgotten\n"
forgotten Csv d j = []

-- federate j's rows where it kept its state, else that it forgot
abbrev pub history : RowFormat → WorldView → ℕ → List ℕ
history format w j =
    if is_kept w.steps j
    then formatted_rows format w.draft.federates (rows_in (stations_of w) j)
    else forgotten format w.draft j

-- each federate's history, in order
abbrev pub each_history : RowFormat → WorldView → List ℕ
each_history format w = printed_each (history format w) (federate_count w.draft)

-- the same, and the end
abbrev pub histories : WorldView → List ℕ
histories w = each_history Text w ++ codes "end\n"

-- how closing rounds ended: the world is stuck, or this many were made
abbrev pub verdict : ℕ → Bool → List ℕ
verdict most is_stuck = if is_stuck then codes "stuck\n" else codes "stopped at " ++ (decimal most ++ codes " rounds\n")

-- a writer's bytes grew by how at most this many closing rounds ended, and by each federate's history
pub record IsClosed (most : ℕ) (w : WorldView) (before after : Option (List ℕ)) : Type 0 where
  pub is_stuck : Bool
  pub tells : IsTrue is_stuck ↔ IsStuck (stations_of w)
  pub printed : Appends before after (verdict most is_stuck ++ histories w)

-- it grew by the histories, after how closing rounds ended where some were asked for
abbrev pub IsEnded : Option ℕ → WorldView → Option (List ℕ) → Option (List ℕ) → Type 0
IsEnded None w before after = Appends before after (histories w)
IsEnded (Some most) w before after = IsClosed most w before after

-- a writer's bytes grew by what is printed of the steps of a schedule and its closing rounds, in a world of which
-- nothing was asked, and then by what is printed at the end of the world after them: all that is known of worlds holds
-- of it, and where closing rounds were enough it is stuck, and every row is printed
pub record IsReplayed (d : Draft) (programs : List Behaviour) (inputs : List Input) (s : Script) (closing : Option ℕ)
    (before after : Option (List ℕ)) : Type 0 where
  pub last : WorldView
  pub played : Option (List ℕ)
  pub plays : PlaysSchedule s closing (unasked_player d programs inputs) last before played
  pub ended : IsEnded closing last played after
  pub faithful : IsFaithful last
  pub enough : AsksForEnough d programs inputs s closing → EndsWithEveryRow d programs inputs last played after

-- for want of memory: a writer's bytes grew by what is printed of the first of these steps, and no more
abbrev pub IsBrokenOff : Draft → List Behaviour → List Input → Script → Option ℕ → Option (List ℕ) → Option (List ℕ)
    → ReplayFault → Type 0
IsBrokenOff d programs inputs s closing before after (World memory) =
    (later : WorldView) × PlaysSomeOf s closing (unasked_player d programs inputs) later before after
IsBrokenOff d programs inputs s closing before after CannotWrite = Unit {0}
