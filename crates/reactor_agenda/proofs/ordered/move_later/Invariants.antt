use Rattle.std.proofs.Common.{◌≡◌, ◌<◌, ◌++◌}
use Rattle.std.specs.VecDeque.{deque_capacity, deque_len}
use Rattle.reactor_agenda.specs.Invariant.{to_first}
use Rattle.reactor_agenda.proofs.ordered.move_later.Given as goal

abbrev pub invariant-loop-front : goal.invariant-loop-front
invariant-loop-front l = record {
  all : l.front.items ++ l.rest.entries ≡ l.initial.front.items ++ l.initial.rest.entries;
  first : to_first l.key l.front.items ≡ to_first l.key l.initial.front.items;
  room : deque_len l.front < deque_capacity l.front;
}

abbrev pub decreases-loop-front : goal.decreases-loop-front
decreases-loop-front l = deque_len l.front
