-- The stations of a federation, as they are made.
use Rattle.std.specs.Prelude.{ℕ, List, [], ◌∷◌, map}
use Rattle.std.specs.List.{range_with_len}
use Rattle.link.specs.Image.{Image, blank}
use Rattle.plan.specs.declared.draft.Draft.{Draft}
use Rattle.plan.specs.declared.input.Input.{Input}
use Rattle.plan.specs.Federation.{federate_count}
use Rattle.reactor_program.specs.Behaviour.{Behaviour}
use Rattle.node.specs.Step.{Station}
use Rattle.node_cores.specs.FederateCore.{FederateNode}
use Rattle.node_cores.specs.CoordinatorCore.{CoordinatorNode}
use Rattle.world_stations.specs.declared.limits.TheConstants.{LINK_ROOM}
use Rattle.world_stations.specs.Federation.{initial_coordinator, initial_member}

-- a new end of federate j's link
abbrev pub new_end : ℕ → Image
new_end j = blank j 1 LINK_ROOM

-- the coordinator's station
abbrev pub new_coordinator : Draft → Station CoordinatorNode
new_coordinator d = record { node = initial_coordinator d; ends = map new_end (range_with_len 0 (federate_count d)) }

-- federate j's
abbrev pub new_federate : Draft → List Behaviour → List Input → ℕ → Station FederateNode
new_federate d programs inputs j = record { node = initial_member d programs inputs j; ends = new_end j ∷ [] }

-- those of the first federates, this many
abbrev pub new_federates : Draft → List Behaviour → List Input → ℕ → List (Station FederateNode)
new_federates d programs inputs count = map (new_federate d programs inputs) (range_with_len 0 count)
