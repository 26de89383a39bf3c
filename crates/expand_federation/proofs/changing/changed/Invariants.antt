-- Where what is left becomes so and so, all of the text becomes what there is, and that behind it.
use Rattle.std.proofs.Common.{◌++◌, ℕ, List, drop}
use Rattle.expand_federation.specs.Changes.{IsChanged}
use Rattle.expand_federation.proofs.changing.changed.Given as goal

abbrev pub invariant-loop-change : goal.invariant-loop-change
invariant-loop-change l =
    (rest : List ℕ) → IsChanged l.before l.left (drop l.change-index l.changes) rest → IsChanged 0 l.text l.changes (l.made.items ++ rest)
