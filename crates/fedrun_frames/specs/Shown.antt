-- All that is printed of a schedule: what is written of its steps and of those of its closing rounds.
use Rattle.std.specs.Prelude.{◌≡◌, ℕ, List, ◌++◌, Option, Result, Ok, Err}
use Rattle.std.specs.Io.KnownBytes.{Appends}
use Rattle.plan.specs.declared.draft.Draft.{Draft}
use Rattle.plan.specs.declared.input.Input.{Input}
use Rattle.plan.specs.Federation.{federate_count}
use Rattle.reactor_program.specs.Behaviour.{Behaviour}
use Rattle.world_stations.specs.Federation.{Federation, initial_world}
use Rattle.world_progress.specs.Rounds.{Playing}
use Rattle.files_script.specs.Scripts.{Script}
use Rattle.fedrun_replay.specs.declared.fault.ReplayFault.{ReplayFault}
use Rattle.fedrun_replay.specs.declared.fault.ReplayFault.TheVariants.{World, CannotWrite}
use Rattle.fedrun_replay.specs.Play.{Made, playing_of, unasked_player, after_lines}
use Rattle.fedrun_replay.specs.Closing.{MayMake, MakesAll, most_rounds, made_in_all}
use Rattle.fedrun_frames.specs.Accounts.{frames_text}

-- a federation's world of which nothing was asked, and cursors that no round moved
abbrev pub unplayed : Draft → List Behaviour → List Input → Playing
unplayed d programs inputs = playing_of (unasked_player d programs inputs)

-- just the steps of a schedule and of its closing rounds, as `replay` makes them
pub record AreStepsOf (d : Draft) (programs : List Behaviour) (inputs : List Input) (s : Script) (closing : Option ℕ)
    (made : List Made) : Type 0 where
  pub rounds : ℕ
  pub all : MakesAll (federate_count d) (most_rounds closing)
      (after_lines (federate_count d) s.lines (unplayed d programs inputs)) rounds
  pub are : made ≡ made_in_all (federate_count d) s rounds (unplayed d programs inputs)

-- a writer's bytes grew by what is written of the first of some steps
pub record ShowsSome (d : Draft) (w : Federation) (asked : List Made) (before after : Option (List ℕ)) : Type 0 where
  pub made : List Made
  pub unmade : List Made
  pub first : asked ≡ made ++ unmade
  pub written : Appends before after (frames_text d w made)

-- a writer's bytes grew by what is written of the steps of a schedule and of its closing rounds, in a world of which
-- nothing was asked
pub record ShowsSchedule (d : Draft) (programs : List Behaviour) (inputs : List Input) (s : Script) (closing : Option ℕ)
    (before after : Option (List ℕ)) : Type 0 where
  pub made : List Made
  pub are : AreStepsOf d programs inputs s closing made
  pub written : Appends before after (frames_text d (initial_world d programs inputs) made)

-- they grew by what is written of the first of these steps; of none of them where there was no memory for the player,
-- which makes them first
pub record ShowsSomeOf (d : Draft) (programs : List Behaviour) (inputs : List Input) (s : Script) (closing : Option ℕ)
    (before after : Option (List ℕ)) : Type 0 where
  pub rounds : ℕ
  pub may : MayMake (federate_count d) (most_rounds closing)
      (after_lines (federate_count d) s.lines (unplayed d programs inputs)) rounds
  pub some : ShowsSome d (initial_world d programs inputs)
      (made_in_all (federate_count d) s rounds (unplayed d programs inputs)) before after

-- what stands after steps were to be written
abbrev pub HasShown : {T : Type 0} → Result T ReplayFault → Draft → Federation → List Made → Option (List ℕ)
    → Option (List ℕ) → Type 0
HasShown (Ok done) d w asked before after = Appends before after (frames_text d w asked)
HasShown (Err (World memory)) d w asked before after = ShowsSome d w asked before after
HasShown (Err CannotWrite) d w asked before after = Unit {0}

-- for want of memory for a step: nothing is written of it
abbrev pub IsUntouched : ReplayFault → Option (List ℕ) → Option (List ℕ) → Type 0
IsUntouched (World memory) before after = after ≡ before
IsUntouched CannotWrite before after = Unit {0}

-- for want of memory: a writer's bytes grew by what is written of some first steps of the schedule, and no more. What a
-- writer holds after it refused isn't known
abbrev pub IsBrokenOff : Draft → List Behaviour → List Input → Script → Option ℕ → Option (List ℕ) → Option (List ℕ)
    → ReplayFault → Type 0
IsBrokenOff d programs inputs s closing before after (World memory) =
    ShowsSomeOf d programs inputs s closing before after
IsBrokenOff d programs inputs s closing before after CannotWrite = Unit {0}
