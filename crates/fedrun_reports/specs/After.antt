-- The node that a plan and a journal make.
use Rattle.std.specs.Prelude.{ℕ, true, false, List}
use Rattle.plan.specs.declared.draft.Draft.{Draft}
use Rattle.node.specs.declared.event.Event.{Event}
use Rattle.node_cores.specs.CoordinatorCore.{CoordinatorNode, coordinator_core}
use Rattle.node_cores.specs.FederateCore.{FederateNode, federate_core}
use Rattle.world_stations.specs.Initial.{new_coordinator, new_federate}
use Rattle.desk.specs.Replay.{after_all}
use Rattle.fedrun_files.specs.declared.reading.Sources.{Sources}

-- the coordinator of a plan, after this journal
abbrev pub coordinator_after : Draft → List Event → CoordinatorNode
coordinator_after plan journal = (after_all coordinator_core true (new_coordinator plan) journal).node

-- the federate of this number, after this journal
abbrev pub federate_after : Sources → ℕ → List Event → FederateNode
federate_after sources j journal =
    (after_all federate_core false (new_federate sources.plan sources.programs sources.inputs j) journal).node
