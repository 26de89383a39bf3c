-- Desks to which nothing came.
use Rattle.std.specs.Prelude.{ℕ, List, [], map}
use Rattle.std.specs.List.{range_with_len}
use Rattle.plan.specs.declared.draft.Draft.{Draft}
use Rattle.plan.specs.declared.input.Input.{Input}
use Rattle.reactor_program.specs.Behaviour.{Behaviour}
use Rattle.node.specs.Step.{Station}
use Rattle.desk.specs.Replay.{Desk}
use Rattle.node_cores.specs.FederateCore.{FederateNode}
use Rattle.world_stations.specs.Initial.{new_federate}

-- a station's desk with an empty journal
abbrev pub unused : {View : Type 0} → Station View → Desk View
unused station = record { station = station; journal = [] }

-- the desks of the first federates, this many
abbrev pub unused_federates : Draft → List Behaviour → List Input → ℕ → List (Desk FederateNode)
unused_federates d programs inputs count = map (λ j. unused (new_federate d programs inputs j)) (range_with_len 0 count)
