use Rattle.std.proofs.Common.{◌≡◌, ◌≤◌, length}
use Rattle.wires.proofs.node_workers.channels.Given as goal

abbrev pub invariant-loop : goal.invariant-loop
invariant-loop g l = (length l.senders.items ≡ l.counter) × (length l.receivers.items ≡ l.counter) × (l.counter ≤ l.count)
