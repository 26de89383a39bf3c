-- The steps that were made, as they are kept.
use Rattle.std.specs.Prelude.{ℕ, ◌-◌, ◌^◌, min, List}
use Rattle.world_stations.specs.declared.dir.Dir.TheVariants as dir
use Rattle.world_stations.specs.declared.step.Step.{Step}
use Rattle.world_stations.specs.declared.step.Step.TheVariants as step
use Rattle.world_stations.specs.declared.made_steps.SmallStep.{SmallStep}
use Rattle.world_stations.specs.declared.made_steps.SmallStep.TheVariants.{DeliverUp, DeliverDown, ResendUp, ResendDown}
use Rattle.world_stations.specs.declared.made_steps.SmallStep.TheVariants.{ReconnectUp, ReconnectDown, Announce}
use Rattle.world_stations.specs.declared.made_steps.SmallStep.TheVariants.{Advance, Forget}

-- the step that a small one is
abbrev pub shown : SmallStep → Step
shown (DeliverUp j k) = step.Deliver (dir.Up j) k
shown (DeliverDown j k) = step.Deliver (dir.Down j) k
shown (ResendUp j) = step.Resend (dir.Up j)
shown (ResendDown j) = step.Resend (dir.Down j)
shown (ReconnectUp j) = step.Reconnect (dir.Up j)
shown (ReconnectDown j) = step.Reconnect (dir.Down j)
shown (Announce j) = step.Announce j
shown (Advance j) = step.Advance j
shown (Forget j) = step.Forget j

-- how many more are sure to take no memory, where this many are kept in two lists, and this many more have room in each
abbrev pub spare_of : ℕ → ℕ → ℕ → ℕ
spare_of kept room more = min (min room more) (2 ^ 64 - 1 - kept)

-- steps, oldest first, and how many more take no memory
pub record MadeView : Type 0 where
  pub steps : List Step
  pub spare : ℕ
