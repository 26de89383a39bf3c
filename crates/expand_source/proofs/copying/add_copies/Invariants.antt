use Rattle.expand_source.specs.Expansion.{AreCopies}
use Rattle.expand_source.specs.Filling.{Appends}
use Rattle.expand_source.proofs.copying.add_copies.Given as goal

abbrev pub invariant-loop-k : goal.invariant-loop-k
invariant-loop-k l = Appends l.initial.text.items l.text.items (AreCopies l.part l.k)
