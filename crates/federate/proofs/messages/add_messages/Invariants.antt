use Rattle.std.proofs.Common.{◌≡◌, ◌++◌, [], map, take}
use Rattle.network.specs.Event.{value_at}
use Rattle.plan_network.specs.Network.{network_of}
use Rattle.node_cores.specs.FederateCore.{to_coordinator}
use Rattle.federate.specs.Outlets.{messages_by}
use Rattle.federate.proofs.messages.add_messages.Given as goal

abbrev pub invariant-loop-outlet : goal.invariant-loop-outlet
invariant-loop-outlet l =
    l.posts.items ≡
    l.initial.posts.items ++ map to_coordinator (messages_by (network_of l.plan [] []) l.tag (value_at l.outputs) (take l.outlet-index l.outlets))
