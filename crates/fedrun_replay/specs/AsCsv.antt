-- A replay of which the rows alone are printed, as comma-separated values; and a replay in either format.
use Rattle.std.specs.Prelude.{ℕ, List, ◌++◌, Option, None}
use Rattle.std.specs.Io.KnownBytes.{Appends, Keeps}
use Rattle.plan.specs.declared.draft.Draft.{Draft}
use Rattle.plan.specs.declared.input.Input.{Input}
use Rattle.reactor_program.specs.Behaviour.{Behaviour}
use Rattle.files_text.specs.declared.row_format.RowFormat.{RowFormat}
use Rattle.files_text.specs.declared.row_format.RowFormat.TheVariants.{Text, Csv}
use Rattle.files_text.specs.CsvText.{csv_header}
use Rattle.world.specs.World.{WorldView}
use Rattle.world.specs.Faithful.{IsFaithful}
use Rattle.files_script.specs.Scripts.{Script}
use Rattle.fedrun_replay.specs.declared.fault.ReplayFault.{ReplayFault}
use Rattle.fedrun_replay.specs.declared.fault.ReplayFault.TheVariants.{World, CannotWrite}
use Rattle.fedrun_replay.specs.Play.{PlayerView, unasked_player}
use Rattle.fedrun_replay.specs.Closing.{PlaysSchedule}
use Rattle.fedrun_replay.specs.Enough.{AsksForEnough, EndsWithEveryRowAsCsv}
use Rattle.fedrun_replay.specs.Replayed.{each_history, IsReplayed, IsBrokenOff}

-- a world came from another by just the steps of a schedule and its closing rounds; what is printed of them comes to no
-- known bytes
abbrev pub HasPlayedUnseen : Script → Option ℕ → PlayerView → WorldView → Type 0
HasPlayedUnseen s closing v later = PlaysSchedule s closing v later None None

-- after the steps of a schedule and its closing rounds, in a world of which nothing was asked, a writer's bytes grew by
-- the header and the rows of each federate that kept its state, in order: all that is known of worlds holds of that
-- world, and where closing rounds were enough it is stuck, and every row is printed
pub record IsReplayedAsCsv (d : Draft) (programs : List Behaviour) (inputs : List Input) (s : Script)
    (closing : Option ℕ) (before after : Option (List ℕ)) : Type 0 where
  pub last : WorldView
  pub plays : HasPlayedUnseen s closing (unasked_player d programs inputs) last
  pub printed : Appends before after (csv_header ++ each_history Csv last)
  pub faithful : IsFaithful last
  pub enough : AsksForEnough d programs inputs s closing → EndsWithEveryRowAsCsv d programs inputs last before after

-- a replay, in a format
abbrev pub IsReplayedIn : RowFormat → Draft → List Behaviour → List Input → Script → Option ℕ → Option (List ℕ)
    → Option (List ℕ) → Type 0
IsReplayedIn Text d programs inputs s closing before after = IsReplayed d programs inputs s closing before after
IsReplayedIn Csv d programs inputs s closing before after = IsReplayedAsCsv d programs inputs s closing before after

-- for want of memory: nothing is printed as comma-separated values
abbrev pub IsUnprinted : Option (List ℕ) → Option (List ℕ) → ReplayFault → Type 0
IsUnprinted before after (World memory) = Keeps before after
IsUnprinted before after CannotWrite = Unit {0}

-- a replay that broke off, in a format
abbrev pub IsBrokenOffIn : RowFormat → Draft → List Behaviour → List Input → Script → Option ℕ → Option (List ℕ)
    → Option (List ℕ) → ReplayFault → Type 0
IsBrokenOffIn Text d programs inputs s closing before after fault =
    IsBrokenOff d programs inputs s closing before after fault
IsBrokenOffIn Csv d programs inputs s closing before after fault = IsUnprinted before after fault
