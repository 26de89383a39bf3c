-- What the text of steps is read as.
use Rattle.std.specs.Prelude.{◌≡◌, ℕ, ◌+◌, List, [], ◌∷◌, length, All, IsTrue}
use Rattle.plan_names.specs.Spelling.{is_name}
use Rattle.plan.specs.declared.draft.Draft.{Draft}
use Rattle.plan.specs.Legal.{IsLegal}
use Rattle.world_stations.specs.declared.step.Step.{Step}
use Rattle.files_script.specs.declared.command.Command.TheVariants.{Make}
use Rattle.files_script.specs.declared.script.ScheduleLine.{ScheduleLine}
use Rattle.files_script.specs.Scripts.{IsStepOf, Script}

-- a legal federation whose federates' names are names, as each one is that a file declares
pub record IsNamed (d : Draft) : Type 0 where
  pub legal : IsLegal d
  pub federates_named : All (λ f. IsTrue (is_name f.name)) d.federates

-- steps of the federates of such a federation, in which each frame is named by a number that a schedule may have
pub record AreRecorded (d : Draft) (steps : List Step) : Type 0 where
  pub named : IsNamed d
  pub steps_of : All (IsStepOf d) steps

-- a line for each step, one after the other, the first of which has this number
abbrev pub lines_from : ℕ → List Step → List ScheduleLine
lines_from number [] = []
lines_from number (step ∷ rest) = record { number = number; command = Make step } ∷ lines_from (number + 1) rest

-- a schedule that says these steps and nothing else: the n-th step stands on line n, and the last line is that of the
-- last step
pub record SaysSteps (steps : List Step) (s : Script) : Type 0 where
  pub lines : s.lines ≡ lines_from 1 steps
  pub last : s.last_line ≡ length steps
