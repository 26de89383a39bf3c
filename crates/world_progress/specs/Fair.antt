-- Schedules by which everything goes on: in each of their segments every federate is asked, and each direction is
-- served once.
use Rattle.std.specs.Prelude.{◌≡◌, ℕ, suc, ◌<◌, List, [], ◌∷◌, ◌++◌, length}
use Rattle.node_cores.specs.FederateCore.{federate_core}
use Rattle.node_cores.specs.CoordinatorCore.{coordinator_core}
use Rattle.world_stations.specs.declared.dir.Dir.{Dir}
use Rattle.world_stations.specs.declared.dir.Dir.TheVariants.{Up, Down}
use Rattle.world_stations.specs.declared.step.Step.{Step}
use Rattle.world_stations.specs.declared.step.Step.TheVariants.{Deliver, Resend, Announce, Advance}
use Rattle.world_stations.specs.World.{frames_in, federate_of, after_steps}
use Rattle.world_stations.specs.Federation.{Federation, step_in}

-- the direction in which a receiver answers
abbrev pub back : Dir → Dir
back (Up j) = Down j
back (Down j) = Up j

-- the world after these steps
abbrev pub after_these : Federation → List Step → Federation
after_these w steps = after_steps coordinator_core federate_core w steps

-- how many frames were ever sent in a direction
abbrev pub sent_count : Federation → Dir → ℕ
sent_count w dir = length (frames_in w dir)

-- a step is made among these, after some and before others
pub record Makes (steps : List Step) (step : Step) : Type 0 where
  pub before : List Step
  pub after : List Step
  pub is : steps ≡ before ++ step ∷ after

-- the frame of this number comes; and if its receiver then answers, the first frame of the answer comes
pub record Brings (w : Federation) (dir : Dir) (number : ℕ) (steps : List Step) : Type 0 where
  pub comes : Makes steps (Deliver dir number)
  pub answers : sent_count (after_these w comes.before) (back dir)
      < sent_count (step_in (after_these w comes.before) (Deliver dir number)).world (back dir) →
      Makes comes.after (Deliver (back dir) (suc (sent_count (after_these w comes.before) (back dir))))

-- the sender of a direction sends again what isn't acknowledged; and if there is something, the first frame of it is
-- brought
pub record Serves (w : Federation) (dir : Dir) (steps : List Step) : Type 0 where
  pub resends : Makes steps (Resend dir)
  pub brings : sent_count (after_these w resends.before) dir
      < sent_count (step_in (after_these w resends.before) (Resend dir)).world dir →
      Brings (step_in (after_these w resends.before) (Resend dir)).world dir
      (suc (sent_count (after_these w resends.before) dir)) resends.after

-- each of this many federates is asked to announce and to advance, and each direction is served
pub record IsFair (federates : ℕ) (w : Federation) (steps : List Step) : Type 0 where
  pub announces : (j : ℕ) → j < federates → Makes steps (Announce j)
  pub advances : (j : ℕ) → j < federates → Makes steps (Advance j)
  pub serves : (dir : Dir) → federate_of dir < federates → Serves w dir steps

-- so are these, one after the other
abbrev pub AreFair : (federates : ℕ) → Federation → List (List Step) → Type 0
AreFair federates w [] = Unit {0}
AreFair federates w (steps ∷ rest) = IsFair federates w steps × AreFair federates (after_these w steps) rest

-- their steps, one after the other
abbrev pub all_steps : List (List Step) → List Step
all_steps [] = []
all_steps (steps ∷ rest) = steps ++ all_steps rest
