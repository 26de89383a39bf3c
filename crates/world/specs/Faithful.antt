-- What holds of every world of a federation, whatever happened to its frames.
use Rattle.std.specs.Prelude.{◌≡◌, ℕ, ◌<◌, true, List, ◌∷◌, ◌++◌}
use Rattle.plan.specs.Federation.{federate_count}
use Rattle.node_cores.specs.FederateCore.{federate_core}
use Rattle.node_cores.specs.CoordinatorCore.{coordinator_core}
use Rattle.world_stations.specs.declared.step.Step.{Step}
use Rattle.world_stations.specs.Kept.{is_kept}
use Rattle.world_stations.specs.Taken.{TakesInOrder}
use Rattle.world_stations.specs.Federation.{initial_world, step_in, IsHarmless, TakesNothingLate, IsPrefix, IsWhole}
use Rattle.world_stations.specs.Federation.{IsStuck, IsFinished}
use Rattle.world.specs.World.{WorldView, stations_of}

-- whatever frames were lost, repeated or overtaken, and whoever forgot:
pub record IsFaithful (w : WorldView) : Type 0 where
  -- no federate has taken a message at a tag that it had run, or at an earlier one
  pub nothing_late : (j : ℕ) → TakesNothingLate w.draft w.programs w.inputs w.steps j
  -- the rows of each federate that kept its state are a prefix of its part of the undivided program's rows
  pub prefix : (j : ℕ) → j < federate_count w.draft → is_kept w.steps j ≡ true
      → IsPrefix w.draft w.programs w.inputs (stations_of w) j
  -- where the world is stuck, no row of its part is missing
  pub stuck : IsStuck (stations_of w) → (j : ℕ) → j < federate_count w.draft
      → IsWhole w.draft w.programs w.inputs (stations_of w) j
  -- nor where nobody forgot and the coordinator is finished
  pub finished : IsFinished (stations_of w) → (j : ℕ) → j < federate_count w.draft
      → IsWhole w.draft w.programs w.inputs (stations_of w) j
  -- of each direction, in each incarnation, what was taken is a prefix of what was offered
  pub in_order : TakesInOrder coordinator_core federate_core (initial_world w.draft w.programs w.inputs) w.steps

-- no step was refused but for a frame of another incarnation, one ahead of its turn, one at a closed end, or a link
-- without room
abbrev pub AreHarmless : WorldView → Type 0
AreHarmless w =
    (before after : List Step) (step : Step) → w.steps ≡ before ++ step ∷ after →
    IsHarmless (step_in (stations_of (record w { steps = before })) step).outcome
