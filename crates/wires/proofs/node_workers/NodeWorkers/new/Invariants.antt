use Rattle.std.proofs.Common.{◌≡◌, ◌≤◌, length}
use Rattle.wires.proofs.node_workers.NodeWorkers.new.Given as goal

abbrev pub invariant-loop : goal.invariant-loop
invariant-loop g l = (length l.writers.items ≡ l.counter) × (l.counter ≤ l.peers)
