use Rattle.std.proofs.Common.{◌≡◌, ◌++◌, take}
use Rattle.std.specs.List.{flat_map}
use Rattle.whole.specs.Construction.{carried_over}
use Rattle.whole.proofs.made.add_carried.Given as goal

abbrev pub invariant-loop-connection : goal.invariant-loop-connection
invariant-loop-connection l = l.events.items ≡ l.initial.events.items ++ flat_map (carried_over l.turn) (take l.connection-index l.connections)
