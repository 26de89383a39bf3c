use Rattle.std.proofs.Common.{◌≡◌, List, ◌++◌, take, map}
use Rattle.toml.specs.View.{view, members_view}
use Rattle.toml.proofs.Views.{Entry}
use Rattle.expand_federation.proofs.sameness.+same.Given as goal

abbrev pub invariant-are_same_items-loop-place : goal.invariant-are_same_items-loop-place
invariant-are_same_items-loop-place l = map view (take l.place l.items.items) ≡ map view (take l.place l.others.items)

abbrev pub invariant-are_same_members-loop-key : goal.invariant-are_same_members-loop-key
invariant-are_same_members-loop-key l =
    (done others : List Entry) × (l.members.entries ≡ done ++ l.key-iterator) × (l.others.entries ≡ others ++ l.rest)
    × (members_view done ≡ members_view others)
