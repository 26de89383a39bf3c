-- A federate as a node: it does what the definition of a federate says, in the network that it is part of.
use Rattle.std.specs.Prelude.{ℕ, Bool, false, List, map}
use Rattle.network.specs.Network.{Network}
use Rattle.network.specs.Undivided.{Row}
use Rattle.signal.specs.declared.signal.Signal.{Signal}
use Rattle.protocol.specs.declared.post.Post.{Post}
use Rattle.protocol.specs.Outcome.{Outcome, with_made}
use Rattle.protocol.specs.Federate.{Federate, Stepped, initial_federate, federate_accepts, federate_announces}
use Rattle.protocol.specs.Federate.{federate_advances}
use Rattle.protocol.specs.KeptAlone.{may_go_up}
use Rattle.node.specs.Core.{Core, Made}
use Rattle.plan.specs.declared.draft.Draft.{Draft}
use Rattle.plan.specs.declared.input.Input.{Input}
use Rattle.reactor_program.specs.Behaviour.{Behaviour}
use Rattle.plan_network.specs.Network.{network_of}

-- what it was made from, with its number, and where it stands
pub record FederateNode : Type 0 where
  pub draft : Draft
  pub programs : List Behaviour
  pub inputs : List Input
  pub number : ℕ
  pub federate : Federate

-- the network that it is part of
abbrev pub network_at : FederateNode → Network
network_at v = network_of v.draft v.programs v.inputs

-- its one peer is the coordinator
abbrev pub to_coordinator : Signal → Post
to_coordinator signal = record { peer = 0; signal = signal }

-- the node after a step of its federate, and what it sends
abbrev pub made_by : FederateNode → Stepped → Made FederateNode
made_by v made = record { after = record v { federate = made.after }; sent = map to_coordinator made.sent }

-- the signals of posts
abbrev pub signals_of : List Post → List Signal
signals_of posts = map (λ (p : Post). p.signal) posts

-- its LTCs rise, and each message is later than every LTC before it
abbrev pub federate_may_send : FederateNode → List Post → Bool
federate_may_send v posts = may_go_up v.federate.completed (signals_of posts)

abbrev pub accepts : FederateNode → ℕ → Signal → Outcome (Made FederateNode)
accepts v peer signal = with_made (made_by v) (federate_accepts (network_at v) v.number v.federate signal)

abbrev pub announces : FederateNode → Outcome (Made FederateNode)
announces v = with_made (made_by v) (federate_announces v.federate)

abbrev pub advances : FederateNode → Outcome (Made FederateNode)
advances v = with_made (made_by v) (federate_advances (network_at v) v.number v.federate)

-- as it was made
abbrev pub initial_node : FederateNode → FederateNode
initial_node v = record v { federate = initial_federate (network_at v) v.number }

abbrev pub federate_core : Core FederateNode Row
federate_core = record {
  accept = accepts;
  announce = announces;
  advance = advances;
  rows = λ v. v.federate.rows;
  finished = λ v. false;
  initial = initial_node;
  may_send = federate_may_send;
}
