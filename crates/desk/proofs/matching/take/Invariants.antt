use Rattle.std.proofs.Common.{◌≡◌, ◌≢◌, ℕ, ◌<◌, List, [], ◌∷◌, ◌++◌, slice_get, Some}
use Rattle.node_journal.specs.declared.slip.Slip.{Slip as IsSlip}
use Rattle.desk.proofs.matching.take.Given as goal

abbrev pub invariant-loop-position : goal.invariant-loop-position
invariant-loop-position l = record {
  same : l.shares ≡ l.initial.shares;
  none : (k : ℕ) → k < l.position → (front : List IsSlip) → slice_get l.shares k ≢ Some (front ++ l.slip ∷ []);
}
