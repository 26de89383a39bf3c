-- How many closing rounds come after a schedule's lines.
use Rattle.std.specs.Prelude.{◌≡◌, ◌⊎◌, ℕ, ◌+◌, ◌<◌, ◌≤◌, List, ◌++◌, Option, None, Some, Result, Ok, Err}
use Rattle.world_stations.specs.Federation.{IsStuck}
use Rattle.world_progress.specs.Rounds.{Playing, steps_of_tasks, closing_rounds_tasks, after_closing_rounds}
use Rattle.world.specs.World.{WorldView}
use Rattle.files_script.specs.Scripts.{Script}
use Rattle.fedrun_replay.specs.declared.fault.ReplayFault.{ReplayFault}
use Rattle.fedrun_replay.specs.declared.fault.ReplayFault.TheVariants.{World, CannotWrite}
use Rattle.fedrun_replay.specs.Play.{PlayerView, playing_of, count_in, Made, made_for, made_by, after_lines, Plays}
use Rattle.fedrun_replay.specs.Play.{PlaysSome, HasMade}

-- no more than are asked for, and none once the world is stuck
pub record MayMake (federates most : ℕ) (p : Playing) (rounds : ℕ) : Type 0 where
  pub at_most : rounds ≤ most
  pub not_before : (earlier : ℕ) → earlier < rounds → ¬ (IsStuck (after_closing_rounds federates earlier p).world)

-- just as many as there are until the world is stuck, or until all were made that are asked for
pub record MakesAll (federates most : ℕ) (p : Playing) (rounds : ℕ) : Type 0 where
  pub may : MayMake federates most p rounds
  pub ended : (rounds ≡ most) ⊎ IsStuck (after_closing_rounds federates rounds p).world

-- closing rounds were made for a line
pub record HasClosed (line most : ℕ) (v later : PlayerView) (before after : Option (List ℕ)) : Type 0 where
  pub rounds : ℕ
  pub all : MakesAll (count_in v) most (playing_of v) rounds
  pub made : HasMade (made_for line (steps_of_tasks (closing_rounds_tasks (count_in v) rounds) (playing_of v)))
      (after_closing_rounds (count_in v) rounds (playing_of v)) v later before after

-- or the first steps of closing rounds that may be made
pub record HasClosedSome (line most : ℕ) (v : PlayerView) (later : WorldView)
    (before after : Option (List ℕ)) : Type 0 where
  pub rounds : ℕ
  pub may : MayMake (count_in v) most (playing_of v) rounds
  pub plays : PlaysSome (made_for line (steps_of_tasks (closing_rounds_tasks (count_in v) rounds) (playing_of v)))
      v.world later before after

-- a player was to make closing rounds
abbrev pub IsClosing : {T : Type 0} → Result T ReplayFault → (line most : ℕ) → PlayerView → PlayerView → Option (List ℕ)
    → Option (List ℕ) → Type 0
IsClosing (Ok done) line most v later before after = HasClosed line most v later before after
IsClosing (Err (World memory)) line most v later before after = HasClosedSome line most v later.world before after
IsClosing (Err CannotWrite) line most v later before after = Unit {0}

-- how many are asked for: none, or this many
abbrev pub most_rounds : Option ℕ → ℕ
most_rounds None = 0
most_rounds (Some most) = most

-- the steps that the lines of a schedule make, and then those of this many closing rounds, for the line after its last
abbrev pub made_in_all : ℕ → Script → (rounds : ℕ) → Playing → List Made
made_in_all federates s rounds p =
    made_by federates s.lines p
    ++ made_for (s.last_line + 1) (steps_of_tasks (closing_rounds_tasks federates rounds)
    (after_lines federates s.lines p))

-- a world came from another by just the steps of a schedule and of its closing rounds, and a writer's bytes grew by
-- what is printed of them
pub record PlaysSchedule (s : Script) (closing : Option ℕ) (v : PlayerView) (later : WorldView)
    (before after : Option (List ℕ)) : Type 0 where
  pub rounds : ℕ
  pub all : MakesAll (count_in v) (most_rounds closing) (after_lines (count_in v) s.lines (playing_of v)) rounds
  pub plays : Plays (made_in_all (count_in v) s rounds (playing_of v)) v.world later before after

-- it came from it by the first of these steps
pub record PlaysSomeOf (s : Script) (closing : Option ℕ) (v : PlayerView) (later : WorldView)
    (before after : Option (List ℕ)) : Type 0 where
  pub rounds : ℕ
  pub may : MayMake (count_in v) (most_rounds closing) (after_lines (count_in v) s.lines (playing_of v)) rounds
  pub plays : PlaysSome (made_in_all (count_in v) s rounds (playing_of v)) v.world later before after

-- a player was to play a schedule, and to make its closing rounds
abbrev pub IsPlaying : {T : Type 0} → Result T ReplayFault → Script → Option ℕ → PlayerView → PlayerView
    → Option (List ℕ) → Option (List ℕ) → Type 0
IsPlaying (Ok done) s closing v later before after = PlaysSchedule s closing v later.world before after
IsPlaying (Err (World memory)) s closing v later before after = PlaysSomeOf s closing v later.world before after
IsPlaying (Err CannotWrite) s closing v later before after = Unit {0}
