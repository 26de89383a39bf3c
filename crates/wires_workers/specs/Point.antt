-- The kind of an event.
use Rattle.node.specs.declared.event.Event.{Event}
use Rattle.node.specs.declared.event.Event.TheVariants as Events
use Rattle.wires_workers.specs.declared.gate.Point.{Point}
use Rattle.wires_workers.specs.declared.gate.Point.TheVariants as Points

-- an event's kind
abbrev pub point_of : Event → Point
point_of (Events.Frame peer frame) = Points.Frame
point_of (Events.Resend peer) = Points.Resend
point_of (Events.Hello peer) = Points.Hello
point_of Events.Announce = Points.Announce
point_of Events.Advance = Points.Advance
