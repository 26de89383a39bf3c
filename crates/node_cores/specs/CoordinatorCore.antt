-- The coordinator as a node: it does what the definition of the coordinator says, by the wiring of its plan, and grants
-- as much as is safe. Its peer j is federate j.
use Rattle.std.specs.Prelude.{ℕ, Bool, ◌&&◌, List, []}
use Rattle.network.specs.Network.{Network}
use Rattle.network.specs.Wiring.{wiring}
use Rattle.signal.specs.declared.signal.Signal.{Signal}
use Rattle.protocol.specs.declared.post.Post.{Post}
use Rattle.protocol.specs.Outcome.{Outcome, Nothing, with_made}
use Rattle.protocol.specs.FederateRecord.{FederateRecord, initial_federate_record}
use Rattle.protocol.specs.FederateRecords.{Listed, federate_record_at, federate_records_listed, coordinator_accepts_in}
use Rattle.protocol.specs.FederateRecords.{is_finished}
use Rattle.protocol.specs.Grant.{Rule, grant_widest, all_below}
use Rattle.protocol.specs.Machine.{sent_to}
use Rattle.protocol.specs.KeptAlone.{is_of_step, may_go_down}
use Rattle.node.specs.Core.{Core, Made}
use Rattle.plan.specs.declared.draft.Draft.{Draft}
use Rattle.plan.specs.Federation.{federate_count, connections_of, stop_of}
use Rattle.plan.specs.Least.{least_of}

-- what it was made from, and what it knows of each federate, by number
pub record CoordinatorNode : Type 0 where
  pub draft : Draft
  pub federate_records : List FederateRecord

-- the wiring of a plan's federation
abbrev pub wiring_in : Draft → Network
wiring_in d = wiring (federate_count d) (connections_of d) (stop_of d)

-- each eligible federate is granted as much as is safe
abbrev pub rule_in : Draft → Rule
rule_in d = grant_widest (wiring_in d) (least_of d)

-- the node after a step, and what it sends
abbrev pub made_by : CoordinatorNode → Listed → Made CoordinatorNode
made_by v made = record { after = record v { federate_records = made.after }; sent = made.sent }

abbrev pub accepts : CoordinatorNode → ℕ → Signal → Outcome (Made CoordinatorNode)
accepts v peer signal =
    with_made (made_by v) (coordinator_accepts_in (wiring_in v.draft) (rule_in v.draft) v.federate_records peer signal)

-- to each federate at most one message and then at most one TAG, both later than what it was granted before
abbrev pub coordinator_may_send : CoordinatorNode → List Post → Bool
coordinator_may_send v posts =
    all_below (federate_count v.draft)
    (λ j. is_of_step (sent_to j posts)
    && may_go_down (federate_record_at v.federate_records j).granted (sent_to j posts))

-- as it was made
abbrev pub initial_node : CoordinatorNode → CoordinatorNode
initial_node v =
    record v { federate_records = federate_records_listed (federate_count v.draft) (λ j. initial_federate_record) }

-- it says and runs nothing by itself, and has no rows
abbrev pub coordinator_core : Core CoordinatorNode (Unit {0})
coordinator_core = record {
  accept = accepts;
  announce = λ v. Nothing;
  advance = λ v. Nothing;
  rows = λ v. [];
  finished = λ v. is_finished (wiring_in v.draft) (federate_record_at v.federate_records);
  initial = initial_node;
  may_send = coordinator_may_send;
}
