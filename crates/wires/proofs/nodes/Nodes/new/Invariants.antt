use Rattle.std.proofs.Common.{◌≡◌, length}
use Rattle.wires.proofs.nodes.Nodes.new.Given as goal

abbrev pub invariant-loop-federate : goal.invariant-loop-federate
invariant-loop-federate g l = length l.shared.items ≡ length l.yielded
