use Rattle.std.proofs.Common.{◌≡◌, drop}
use Rattle.reactor_agenda.specs.Invariant.{first_firing}
use Rattle.reactor_agenda.proofs.timers.first_firing.Given as goal

abbrev pub invariant-loop-place : goal.invariant-loop-place
invariant-loop-place l = l.first ≡ first_firing (drop l.place l.timers)
