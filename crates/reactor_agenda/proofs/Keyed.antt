-- The ordered map's entries, at the order of its keys.
use Rattle.std.proofs.Common.{◌≡◌, ℤ, true, false, List, [], ◌∷◌, ◌++◌, ap, sym, refl, Option, None, Some}
use Rattle.std.specs.Prelude.{is_some}
use Rattle.std.specs.List.Sorted.{IsStrictlySortedBy}
use Rattle.std.specs.BTreeMap.{insert_entry, is_at}
use Rattle.std.specs.Map.{keys_of, remove_entry, lookup}
use Rattle.network.specs.Undone.{PendingEvent, put, Rises}
use Rattle.reactor_agenda.specs.declared.key.Key.{Key}
use Rattle.reactor_agenda.specs.declared.undo.Undo.{Undo}
use Rattle.reactor_agenda.specs.Invariant.{held_at, held_in, key_cmp, undo_to, undo_all}
use Rattle.reactor_agenda.proofs.Order.{held_cmp}
use Rattle.reactor_agenda.proofs.Putting.{rises, ordered}
use Rattle.reactor_agenda.proofs.Entries as entries

pub same : (a b : Key) (v w : ℤ) → key_cmp a b ≡ held_cmp (held_at (a, v)) (held_at (b, w))
same a b v w = refl

abbrev pub IsInOrder : List (Key × ℤ) → Type 0
IsInOrder es = IsStrictlySortedBy key_cmp (keys_of es)

pub rises_in : (es : List (Key × ℤ)) → IsInOrder es → Rises (held_in es)
rises_in es r = rises (held_in es) (entries.ordered_in key_cmp same es (entries.sorted_in key_cmp same es r))

pub put_entry : (es : List (Key × ℤ)) (k : Key) (v : ℤ) → held_in (insert_entry key_cmp es k v) ≡ put (held_at (k, v)) (held_in es)
put_entry = entries.put_entry key_cmp same

pub remove_held : (es : List (Key × ℤ)) (k : Key) → Rises (held_in es) → held_in (remove_entry (is_at (key_cmp k)) es) ≡ undo_to k None (held_in es)
remove_held es k r = entries.remove_held key_cmp same es k (entries.sorted_from key_cmp same es (ordered (held_in es) r))

pub none_is : (o : Option ℤ) → is_some o ≡ false → o ≡ None
none_is None h = refl
none_is (Some x) h = cc

pub set_absent : (es : List (Key × ℤ)) (k : Key) (v : ℤ) → is_some (lookup (is_at (key_cmp k)) es) ≡ false → held_in es ≡ undo_to k (Some v) (held_in es)
set_absent es k v h = sym (entries.set_absent key_cmp same es k v (none_is (lookup (is_at (key_cmp k)) es) h))

present_by : (es : List (Key × ℤ)) (k : Key) (v : ℤ) → IsInOrder es → (o : Option ℤ) → lookup (is_at (key_cmp k)) es ≡ o → is_some o ≡ true →
    held_in (insert_entry key_cmp es k v) ≡ undo_to k (Some v) (held_in es)
present_by es k v r None p h = cc
present_by es k v r (Some w) p h = entries.set_present key_cmp same es k v w (entries.sorted_in key_cmp same es r) p

pub set_present : (es : List (Key × ℤ)) (k : Key) (v : ℤ) → IsInOrder es → is_some (lookup (is_at (key_cmp k)) es) ≡ true →
    held_in (insert_entry key_cmp es k v) ≡ undo_to k (Some v) (held_in es)
set_present es k v r h = present_by es k v r (lookup (is_at (key_cmp k)) es) refl h

-- what was done last is undone first
pub undo_all_more : (undos : List Undo) (u : Undo) (events : List PendingEvent) → undo_all (undos ++ u ∷ []) events ≡ undo_all undos (undo_to u.key u.was events)
undo_all_more [] u events = refl
undo_all_more (x ∷ undos) u events = ap (undo_to x.key x.was) (undo_all_more undos u events)
