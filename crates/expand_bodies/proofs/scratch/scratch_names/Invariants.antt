use Rattle.expand_bodies.specs.Expanded.{AreScratchNames}
use Rattle.expand_bodies.proofs.scratch.scratch_names.Given as goal

abbrev pub invariant-loop-number : goal.invariant-loop-number
invariant-loop-number l = AreScratchNames l.states l.names.items
