use Rattle.std.proofs.Common.{◌≡◌}
use Rattle.network.specs.Undone.{drop_up_to}
use Rattle.reactor_agenda.specs.Invariant.{firings_of, IsTimer}
use Rattle.reactor_agenda.proofs.firings.later_than.Given as goal

abbrev pub invariant-loop-tag : goal.invariant-loop-tag
invariant-loop-tag l = record {
  timer : IsTimer l.rest;
  firings : drop_up_to l.tag (firings_of l.rest) ≡ drop_up_to l.tag (firings_of l.fn.timer);
}

abbrev pub decreases-loop-tag : goal.decreases-loop-tag
decreases-loop-tag l = l.rest.left
