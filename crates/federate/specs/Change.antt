-- What a signal that is accepted changes.
use Rattle.std.specs.Prelude.{IsTrue, Some}
use Rattle.tag.specs.LogicalTime.{LogicalTime, is_at_most}
use Rattle.network.specs.Undone.{put}
use Rattle.protocol.specs.Federate.{Federate}
use Rattle.federate.specs.declared.change.Change.{Change}
use Rattle.federate.specs.declared.change.Change.TheVariants.{Grant, Put}

-- a federate with the change
abbrev pub changed : Change → Federate → Federate
changed (Grant tag) f = record f { granted = Some tag }
changed (Put event) f = record f { undone = put event f.undone }

-- an event that is put isn't later than stop
abbrev pub IsInTime : LogicalTime → Change → Type 0
IsInTime stop (Grant tag) = Unit {0}
IsInTime stop (Put event) = IsTrue (is_at_most event.tag stop)
