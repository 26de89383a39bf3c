-- The world of a federation: its coordinator and its federates, and what is said of its runs.
use Rattle.std.specs.Prelude.{◌≡◌, ℕ, Bool, true, false, ◌||◌, nat_eq, IsTrue, List, [], ◌∷◌, ◌++◌, All, Option, None}
use Rattle.std.specs.Prelude.{Some, slice_get}
use Rattle.std.specs.List.{list_any}
use Rattle.tag.specs.LogicalTime.{is_before}
use Rattle.network.specs.Undivided.{Row, whole, part}
use Rattle.network_laws.specs.Settled as order
use Rattle.protocol_laws.specs.Rows.{HasEveryRow}
use Rattle.signal.specs.declared.signal.Signal.{Signal}
use Rattle.signal.specs.declared.signal.Signal.TheVariants.{Net, Ltc, Tag, Msg}
use Rattle.plan.specs.declared.draft.Draft.{Draft}
use Rattle.plan.specs.declared.input.Input.{Input}
use Rattle.plan.specs.Federation.{federate_count}
use Rattle.reactor_program.specs.Behaviour.{Behaviour}
use Rattle.plan_network.specs.Network.{network_of}
use Rattle.protocol.specs.Federate.{initial_federate}
use Rattle.protocol.specs.FederateRecord.{initial_federate_record}
use Rattle.protocol.specs.FederateRecords.{federate_records_listed}
use Rattle.node.specs.Step.{Station}
use Rattle.node_cores.specs.FederateCore.{FederateNode, federate_core}
use Rattle.node_cores.specs.CoordinatorCore.{CoordinatorNode, coordinator_core}
use Rattle.world_stations.specs.declared.limits.TheConstants.{LINK_ROOM}
use Rattle.world_stations.specs.declared.dir.Dir.TheVariants.{Down}
use Rattle.world_stations.specs.declared.step.Step.{Step}
use Rattle.world_stations.specs.declared.outcome.Outcome.{Outcome}
use Rattle.world_stations.specs.declared.outcome.Outcome.TheVariants.{Nothing, Done, Refused}
use Rattle.world_stations.specs.World.{World, Applied, opened, applied, after_steps}
use Rattle.world_stations.specs.Taken.{newly_taken}
use Rattle.world_stations.specs.Kept.{is_forget}
use Rattle.world_stations.specs.Kept as kept

-- the world of a coordinator and federates
abbrev pub Federation : Type 0
Federation = World CoordinatorNode FederateNode

-- the coordinator, as it is made
abbrev pub initial_coordinator : Draft → CoordinatorNode
initial_coordinator d =
    record { draft = d; federate_records = federate_records_listed (federate_count d) (λ j. initial_federate_record) }

-- federate j, as it is made
abbrev pub initial_member : Draft → List Behaviour → List Input → ℕ → FederateNode
initial_member d programs inputs j =
    record {
      draft = d;
      programs = programs;
      inputs = inputs;
      number = j;
      federate = initial_federate
          (network_of d programs inputs) j;
    }

-- the world before the first step
abbrev pub initial_world : Draft → List Behaviour → List Input → Federation
initial_world d programs inputs =
    opened (initial_coordinator d) (federate_count d) (initial_member d programs inputs) LINK_ROOM

-- a step, and the world after it
abbrev pub step_in : Federation → Step → Applied CoordinatorNode FederateNode
step_in w step = applied coordinator_core federate_core w step

-- the world after these steps from the initial one
abbrev pub world_after : Draft → List Behaviour → List Input → List Step → Federation
world_after d programs inputs steps = after_steps coordinator_core federate_core (initial_world d programs inputs) steps

-- the rows of a station
abbrev pub rows_at : Option (Station FederateNode) → List Row
rows_at None = []
rows_at (Some s) = s.node.federate.rows

-- federate j's rows
abbrev pub rows_in : Federation → ℕ → List Row
rows_in w j = rows_at (slice_get w.federates j)

-- a refusal that may come: a frame of another incarnation (51), one that is ahead of its turn (52), one at a closed end
-- (55), and a link without room (60)
abbrev pub is_harmless : ℕ → Bool
is_harmless number = nat_eq number 51 || nat_eq number 52 || nat_eq number 55 || nat_eq number 60

-- an outcome with none but such a refusal: no signal is refused by a node, and nothing is acknowledged that wasn't sent
abbrev pub IsHarmless : Outcome → Type 0
IsHarmless Nothing = Unit {0}
IsHarmless Done = Unit {0}
IsHarmless (Refused number) = IsTrue (is_harmless number)

-- a message that is later than the tags of these rows
abbrev pub IsLaterThan : List Row → Signal → Type 0
IsLaterThan rows (Net tag) = Unit {0}
IsLaterThan rows (Ltc tag) = Unit {0}
IsLaterThan rows (Tag tag) = Unit {0}
IsLaterThan rows (Msg connection tag value) = All (λ row. IsTrue (is_before row.tag tag)) rows

-- at none of these steps does federate j, in any incarnation, take a message at a tag that it ran before, or at an
-- earlier one
abbrev pub TakesNothingLate : Draft → List Behaviour → List Input → List Step → ℕ → Type 0
TakesNothingLate d programs inputs steps j =
    (before after : List Step) (step : Step) (incarnation : ℕ) → steps ≡ before ++ step ∷ after →
    All (IsLaterThan (rows_in (world_after d programs inputs before) j))
    (newly_taken (world_after d programs inputs before) (step_in (world_after d programs inputs before) step).world
    (Down j) incarnation step)

-- federate j's rows are a prefix of its part of what the undivided program computes in some number of turns
abbrev pub IsPrefix : Draft → List Behaviour → List Input → Federation → ℕ → Type 0
IsPrefix d programs inputs w j =
    (turns : ℕ) × order.BeginsWith (part j (whole (network_of d programs inputs) turns)) (rows_in w j)

-- federate j's rows begin with its part of what the undivided program computes, in however many turns
abbrev pub IsWhole : Draft → List Behaviour → List Input → Federation → ℕ → Type 0
IsWhole d programs inputs w j = HasEveryRow (network_of d programs inputs) j (rows_in w j)

-- a stuck world of a federation
abbrev pub IsStuck : Federation → Type 0
IsStuck w = kept.IsStuck coordinator_core federate_core w

-- nobody forgot, and the coordinator says that all is finished
pub record IsFinished (w : Federation) : Type 0 where
  pub kept : list_any is_forget w.steps ≡ false
  pub finished : coordinator_core.finished w.coordinator.node ≡ true
