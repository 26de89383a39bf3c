use Rattle.std.proofs.Common.{◌+◌, map, take}
use Rattle.toml.specs.View.{view, items_of}
use Rattle.expand_documents.specs.Entries.{members_of_entries}
use Rattle.expand_documents.specs.Filled.{AreItemsFilled, AreMembersFilled}
use Rattle.expand_documents.proofs.filled.+filled.Given as goal

abbrev pub decreases-want_filled : goal.decreases-want_filled
decreases-want_filled l = l.depth + l.depth + l.depth

abbrev pub decreases-want_items_filled : goal.decreases-want_items_filled
decreases-want_items_filled l = l.depth + l.depth + l.depth + 1

abbrev pub decreases-want_members_filled : goal.decreases-want_members_filled
decreases-want_members_filled l = l.depth + l.depth + l.depth + 1

abbrev pub decreases-want_array_filled : goal.decreases-want_array_filled
decreases-want_array_filled l = l.depth + l.depth + l.depth + 2

abbrev pub decreases-want_table_filled : goal.decreases-want_table_filled
decreases-want_table_filled l = l.depth + l.depth + l.depth + 2

abbrev pub invariant-want_items_filled-loop-place : goal.invariant-want_items_filled-loop-place
invariant-want_items_filled-loop-place l = AreItemsFilled l.names (items_of (map view (take l.place l.items))) (items_of (map view (take l.place l.made)))

abbrev pub invariant-want_members_filled-loop-place : goal.invariant-want_members_filled-loop-place
invariant-want_members_filled-loop-place l = AreMembersFilled l.names (members_of_entries (take l.place l.entries)) (members_of_entries (take l.place l.made))
