-- How the steps of a schedule are listed, line by line.
use Rattle.std.specs.Prelude.{◌≡◌, ℕ, ◌+◌, List, ◌++◌, Option, None, Some}
use Rattle.world_progress.specs.Rounds.{Task, steps_of_tasks, after_tasks, closing_rounds_tasks}
use Rattle.files_script.specs.declared.script.ScheduleLine.{ScheduleLine}
use Rattle.files_script.specs.Scripts.{Script}
use Rattle.fedrun_replay.specs.Play.{PlayerView, Made, playing_of, count_in, made_for, made_by, after_lines}
use Rattle.fedrun_replay.specs.Closing.{MakesAll}

-- a player did these tasks, and their steps were listed for a line
pub record ListsTasks (line : ℕ) (tasks : List Task) (v later : PlayerView) (before after : List Made) : Type 0 where
  pub listed : after ≡ before ++ made_for line (steps_of_tasks tasks (playing_of v))
  pub is : playing_of later ≡ after_tasks tasks (playing_of v)
  pub count : count_in later ≡ count_in v

-- it did what these lines ask for, and the steps were listed, each for its line
pub record ListsLines (lines : List ScheduleLine) (v later : PlayerView) (before after : List Made) : Type 0 where
  pub listed : after ≡ before ++ made_by (count_in v) lines (playing_of v)
  pub is : playing_of later ≡ after_lines (count_in v) lines (playing_of v)
  pub count : count_in later ≡ count_in v

-- it made closing rounds, and their steps were listed for a line
pub record ListsRounds (line most : ℕ) (v : PlayerView) (before after : List Made) : Type 0 where
  pub rounds : ℕ
  pub all : MakesAll (count_in v) most (playing_of v) rounds
  pub listed : after ≡ before ++ made_for line
      (steps_of_tasks (closing_rounds_tasks (count_in v) rounds) (playing_of v))

-- those for the line after a schedule's last, where they are asked for
abbrev pub ListsClosing : Script → Option ℕ → PlayerView → (before after : List Made) → Type 0
ListsClosing s None v before after = after ≡ before
ListsClosing s (Some most) v before after = ListsRounds (s.last_line + 1) most v before after
