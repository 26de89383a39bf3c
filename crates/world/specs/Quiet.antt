-- A federate for which nothing is left to be done.
use Rattle.std.specs.Prelude.{◌≡◌, ℕ}
use Rattle.world_stations.specs.declared.step.Step.TheVariants.{Announce, Advance}
use Rattle.world_stations.specs.declared.outcome.Outcome.TheVariants.{Nothing}
use Rattle.world_stations.specs.Federation.{Federation, step_in}
use Rattle.world_stations.specs.Acknowledged.{IsAcknowledged}

-- federate j has nothing to announce and nothing to run
pub record IsSilent (w : Federation) (j : ℕ) : Type 0 where
  pub announced : (step_in w (Announce j)).outcome ≡ Nothing
  pub advanced : (step_in w (Advance j)).outcome ≡ Nothing

-- nothing is left to be done at federate j, in either direction of its link
pub record IsQuiet (w : Federation) (j : ℕ) : Type 0 where
  pub acknowledged : IsAcknowledged w j
  pub silent : IsSilent w j
