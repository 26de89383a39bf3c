-- Who kept its state, and when a world is stuck.
use Rattle.std.specs.Prelude.{◌≡◌, ℕ, ◌≤◌, Bool, true, false, not, nat_eq, List, [], All, IfSome}
use Rattle.std.specs.List.{list_any}
use Rattle.signal.specs.declared.frame.Frame.{Frame}
use Rattle.signal.specs.declared.frame.Frame.TheVariants.{Hello, Data, Ack, Refuse}
use Rattle.node.specs.Core.{Core}
use Rattle.world_stations.specs.declared.dir.Dir.{Dir}
use Rattle.world_stations.specs.declared.step.Step.{Step}
use Rattle.world_stations.specs.declared.step.Step.TheVariants.{Deliver, Resend, Reconnect, Announce, Advance, Forget}
use Rattle.world_stations.specs.declared.outcome.Outcome.TheVariants as outcome
use Rattle.world_stations.specs.World.{World, frames_in, applied}
use Rattle.world_stations.specs.Taken.{receiver, sender, number_taken, number_acknowledged}

-- a step that makes federate j forget
abbrev pub is_forget_of : ℕ → Step → Bool
is_forget_of j (Deliver dir k) = false
is_forget_of j (Resend dir) = false
is_forget_of j (Reconnect dir) = false
is_forget_of j (Announce k) = false
is_forget_of j (Advance k) = false
is_forget_of j (Forget k) = nat_eq k j

-- a step that makes some federate forget
abbrev pub is_forget : Step → Bool
is_forget (Deliver dir k) = false
is_forget (Resend dir) = false
is_forget (Reconnect dir) = false
is_forget (Announce j) = false
is_forget (Advance j) = false
is_forget (Forget j) = true

-- federate j keeps its state through these steps
abbrev pub is_kept : List Step → ℕ → Bool
is_kept steps j = not (list_any (is_forget_of j) steps)

-- a frame of a direction is settled: if it carries a signal, that was taken, and its acknowledgement has come
abbrev pub IsSettled : {OfCoordinator OfFederate : Type 0} → World OfCoordinator OfFederate → Dir → Frame → Type 0
IsSettled w dir (Hello _) = Unit {0}
IsSettled w dir (Data incarnation number signal) =
    (number ≤ number_taken incarnation (receiver w dir)) × (number ≤ number_acknowledged incarnation (sender w dir))
IsSettled w dir (Ack _ _) = Unit {0}
IsSettled w dir (Refuse _ _) = Unit {0}

-- a world is stuck: nobody forgot, every signal sent was taken and acknowledged, and nobody has anything to announce or
-- to run
pub record IsStuck {OfCoordinator OfFederate CoordinatorRow Row : Type 0}
    (of_coordinator : Core OfCoordinator CoordinatorRow) (of_federate : Core OfFederate Row)
    (w : World OfCoordinator OfFederate) : Type 0 where
  pub kept : list_any is_forget w.steps ≡ false
  pub settled : (dir : Dir) → All (IsSettled w dir) (frames_in w dir)
  pub announced : (j : ℕ) → (applied of_coordinator of_federate w (Announce j)).outcome ≡ outcome.Nothing
  pub advanced : (j : ℕ) → (applied of_coordinator of_federate w (Advance j)).outcome ≡ outcome.Nothing

-- no end keeps a signal: all that it offered is acknowledged
abbrev pub KeepsNothing : {OfCoordinator OfFederate : Type 0} → World OfCoordinator OfFederate → Type 0
KeepsNothing w = (dir : Dir) → IfSome (sender w dir) (λ e. e.kept ≡ [])
