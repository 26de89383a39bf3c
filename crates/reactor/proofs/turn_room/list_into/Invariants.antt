use Rattle.std.proofs.Common.{◌≡◌}
use Rattle.network.specs.Event.{listed}
use Rattle.reactor.specs.Entries.{value_in}
use Rattle.reactor.proofs.turn_room.list_into.Given as goal

abbrev pub invariant-loop-place : goal.invariant-loop-place
invariant-loop-place l = l.entries.items ≡ listed l.place (value_in l.values)
