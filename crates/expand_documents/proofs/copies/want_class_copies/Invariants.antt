use Rattle.std.proofs.Common.{◌≤◌, length, map, take}
use Rattle.toml.specs.View.{view, table_view}
use Rattle.expand_documents.specs.Entries.{members_of_entries}
use Rattle.expand_documents.specs.Documents.{IsClassCopy, AreCopies}
use Rattle.expand_documents.proofs.copies.want_class_copies.Given as goal

abbrev pub invariant-loop-k : goal.invariant-loop-k
invariant-loop-k l = (l.k ≤ length l.made)
    × AreCopies (IsClassCopy l.parameters (table_view l.of.own.now) (table_view l.of.class.now) (members_of_entries l.of.settings.now) l.of.defaults.now l.range) l.k (map view (take l.k l.made))
