use Rattle.std.proofs.Common.{◌≤◌, length, map, take}
use Rattle.toml.specs.View.{view, table_view}
use Rattle.expand_documents.specs.Documents.{IsOwnCopy, AreCopies}
use Rattle.expand_documents.proofs.copies.want_own_copies.Given as goal

abbrev pub invariant-loop-k : goal.invariant-loop-k
invariant-loop-k l = (l.k ≤ length l.made)
    × AreCopies (IsOwnCopy l.parameters (table_view l.entry) (map (λ k. k.now) l.keys) l.range) l.k (map view (take l.k l.made))
