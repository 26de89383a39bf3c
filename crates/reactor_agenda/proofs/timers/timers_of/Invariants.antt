use Rattle.std.proofs.Common.{◌≡◌, take}
use Rattle.reactor_agenda.specs.Invariant.{timers_from}
use Rattle.reactor_agenda.proofs.timers.timers_of.Given as goal

abbrev pub invariant-loop-place : goal.invariant-loop-place
invariant-loop-place l = l.timers.items ≡ timers_from l.stop l.first (take l.place l.slots.timers)
