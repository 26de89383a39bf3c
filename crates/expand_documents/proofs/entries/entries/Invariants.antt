use Rattle.std.proofs.Common.{◌≡◌, map}
use Rattle.toml.specs.View.{members_view}
use Rattle.expand_documents.specs.Entries.{without}
use Rattle.expand_documents.proofs.Members.{before}
use Rattle.expand_documents.proofs.entries.entries.Given as goal

abbrev pub invariant-loop-key : goal.invariant-loop-key
invariant-loop-key l =
    without (map (λ k. k.now) l.left_out) (members_view l.table.entries)
    ≡ before l.entries.items (without (map (λ k. k.now) l.left_out) (members_view l.key-iterator))
