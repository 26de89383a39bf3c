-- A world of a federation, by what it was made from and the steps made: all else follows from these.
use Rattle.std.specs.Prelude.{List, [], ◌∷◌, ◌++◌}
use Rattle.plan.specs.declared.draft.Draft.{Draft}
use Rattle.plan.specs.declared.input.Input.{Input}
use Rattle.reactor_program.specs.Behaviour.{Behaviour}
use Rattle.world_stations.specs.declared.step.Step.{Step}
use Rattle.world_stations.specs.Federation.{Federation, world_after}

-- what a federation is made of, and the steps made, oldest first
pub record WorldView : Type 0 where
  pub draft : Draft
  pub programs : List Behaviour
  pub inputs : List Input
  pub steps : List Step

-- all stations and frames after its steps
abbrev pub stations_of : WorldView → Federation
stations_of w = world_after w.draft w.programs w.inputs w.steps

-- one more step
abbrev pub with_step : WorldView → Step → WorldView
with_step w step = record w { steps = w.steps ++ step ∷ [] }

-- more steps
abbrev pub with_steps : WorldView → List Step → WorldView
with_steps w steps = record w { steps = w.steps ++ steps }
