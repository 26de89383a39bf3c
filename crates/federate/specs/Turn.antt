-- What a turn of a federate makes, before anything changes; and which tag is due.
use Rattle.std.specs.Prelude.{◌≡◌, if◌then◌else◌, List, [], ◌∷◌, ◌++◌, map, filter, length, Option, None, Some}
use Rattle.tag.specs.LogicalTime.{LogicalTime, is_at_most, is_reached}
use Rattle.network.specs.Event.{listed, value_at}
use Rattle.network.specs.Network.{Effect}
use Rattle.network.specs.Undone.{PendingEvent, look, first_tag}
use Rattle.signal.specs.declared.signal.Signal.TheVariants.{Ltc}
use Rattle.protocol.specs.Federate.{Federate, scheduled_at}
use Rattle.plan.specs.declared.draft.Draft.{Draft}
use Rattle.plan.specs.Federation.{stop_of}
use Rattle.plan_slots.specs.Numbering.{slot_count}
use Rattle.reactor.specs.Effect as reactor
use Rattle.plan_network.specs.Network.{network_of}
use Rattle.reactor.specs.Turn.{Reactor, turn_of}
use Rattle.node_cores.specs.FederateCore.{to_coordinator}
use Rattle.federate.specs.declared.outlet.Outlet.{Outlet}
use Rattle.federate.specs.declared.prepared.Prepared.{Prepared}
use Rattle.federate.specs.Outlets.{messages_by}

-- this tag, if it is granted
abbrev pub due_if : Option LogicalTime → Option LogicalTime → Option LogicalTime
due_if granted None = None
due_if granted (Some tag) = if is_reached granted tag then Some tag else None

-- the least undone tag, if it is granted
abbrev pub due_in : Federate → Option LogicalTime
due_in f = due_if f.granted (first_tag f.undone)

-- what a reactor makes of what is undone at a tag
abbrev pub effect_at : Reactor → List PendingEvent → LogicalTime → Effect
effect_at r undone tag = reactor.effect_of r.behaviour r.states (look undone tag)

-- the turn at a tag; neither programs nor recorded inputs matter for its messages
pub record IsPrepared (d : Draft) (r : Reactor) (undone : List PendingEvent) (outlets : List Outlet) (tag : LogicalTime)
    (p : Prepared) : Type 0 where
  pub present : p.present.items ≡ listed (slot_count r.behaviour.slots) (look undone tag)
  pub turn : p.turn ≡ turn_of r (look undone tag)
  pub fits : length p.turn.states ≡ length r.states
  pub scheduled : p.scheduled.items ≡
      filter (λ e. is_at_most e.tag (stop_of d)) (map (scheduled_at tag) (effect_at r undone tag).schedulings)
  pub posts : p.posts.items ≡
      map to_coordinator (messages_by (network_of d [] []) tag (value_at (turn_of r (look undone tag)).outputs) outlets
      ++ Ltc tag ∷ [])
