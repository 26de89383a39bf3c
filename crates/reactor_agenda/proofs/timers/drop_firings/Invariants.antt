use Rattle.std.proofs.Common.{◌≡◌, drop, take, length}
use Rattle.std.specs.List.{AllByRecursion}
use Rattle.network.specs.Undone.{drop_up_to}
use Rattle.reactor_agenda.specs.Invariant.{all_firings, IsTimer}
use Rattle.reactor_agenda.proofs.timers.drop_firings.Given as goal

abbrev pub invariant-loop-place : goal.invariant-loop-place
invariant-loop-place l = record {
  timers : AllByRecursion IsTimer l.timers;
  len : length l.timers ≡ length l.initial.timers;
  rest : drop l.place l.timers ≡ drop l.place l.initial.timers;
  done : all_firings (take l.place l.timers) ≡ drop_up_to l.tag (all_firings (take l.place l.initial.timers));
}
