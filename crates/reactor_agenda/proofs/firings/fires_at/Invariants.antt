use Rattle.std.proofs.Common.{◌≡◌}
use Rattle.reactor_agenda.specs.Invariant.{firings_of, IsTimer}
use Rattle.reactor_agenda.proofs.Fired.{those_at}
use Rattle.reactor_agenda.proofs.firings.fires_at.Given as goal

abbrev pub invariant-loop-rest : goal.invariant-loop-rest
invariant-loop-rest l = record {
  timer : IsTimer l.rest;
  slot : l.rest.slot ≡ l.fn.timer.slot;
  firings : those_at l.tag (firings_of l.rest) ≡ those_at l.tag (firings_of l.fn.timer);
}

abbrev pub decreases-loop-rest : goal.decreases-loop-rest
decreases-loop-rest l = l.rest.left
