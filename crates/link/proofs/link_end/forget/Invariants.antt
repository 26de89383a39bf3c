use Rattle.std.proofs.Common.{◌≡◌, ◌+◌, drop}
use Rattle.std.specs.VecDeque.{deque_capacity, deque_len}
use Rattle.link.proofs.link_end.forget.Given as goal

-- as many are gone as were counted
abbrev pub invariant-loop : goal.invariant-loop
invariant-loop l = record {
  items : l.kept.items ≡ drop l.counter l.fn.kept.items;
  len : deque_len l.kept + l.counter ≡ deque_len l.fn.kept;
  capacity : deque_capacity l.kept ≡ deque_capacity l.fn.kept;
}
