-- The entries of the ordered map as events: an entry put in its place, taken out, and given another value.
use Rattle.std.proofs.Common.{◌≡◌, ℤ, pos, Bool, true, false, cond, not, List, [], ◌∷◌, Option, None, Some, refl, sym, ap, subst, ◌∙◌, Ordering, Less, Equal, Greater}
use Rattle.std.specs.Prelude.{map, filter, if◌then◌else◌}
use Rattle.std.specs.List.{AllByRecursion}
use Rattle.std.specs.List.Sorted.{IsStrictlySortedBy}
use Rattle.std.specs.BTreeMap.{insert_entry, is_at}
use Rattle.std.specs.Map.{keys_of, remove_entry, lookup}
use Rattle.std.specs.Ordering.{match_ordering, is_eq}
use Rattle.std.proofs.lemmas.Cmp.{tied_itself}
use Rattle.network.specs.Undone.{PendingEvent, is_for_same, put}
use Rattle.reactor_agenda.specs.declared.key.Key.{Key}
use Rattle.reactor_agenda.specs.Invariant.{held_at, held_in, undo_to, EachBefore}
use Rattle.reactor_agenda.proofs.Order.{held_cmp, held_total, same_is}
use Rattle.reactor_agenda.proofs.Putting.{put_less, put_equal, put_greater, Above, Ordered}
use Rattle.reactor_agenda.proofs.Filtered.{same_tag, same_slot, filter_all}

-- an event for this slot at this tag
abbrev pub is_for : Key → PendingEvent → Bool
is_for k e = is_for_same (held_at (k, pos 0)) e

abbrev pub set_to : Key → ℤ → List PendingEvent → List PendingEvent
set_to k v u = map (λ e. if is_for k e then held_at (k, v) else e) u

same_key : (a b : Key) → held_cmp (held_at (a, pos 0)) (held_at (b, pos 0)) ≡ Equal → a ≡ b
same_key a b h =
    ap (λ tag. record { tag = tag; slot = a.slot }) (same_tag (held_at (a, pos 0)) (held_at (b, pos 0)) h)
    ∙ ap (λ slot. record { tag = b.tag; slot = slot }) (same_slot (held_at (a, pos 0)) (held_at (b, pos 0)) h)

-- events for other slots or tags
abbrev pub AreOthers : Key → List PendingEvent → Type 0
AreOthers k u = AllByRecursion (λ e. is_for k e ≡ false) u

others_above : (k : Key) (u : List PendingEvent) → Above (held_at (k, pos 0)) u → AreOthers k u
others_above k [] a = tt
others_above k (e ∷ u) a = (same_is (held_at (k, pos 0)) e ∙ ap is_eq a.0, others_above k u a.1)

set_others : (k : Key) (v : ℤ) (u : List PendingEvent) → AreOthers k u → set_to k v u ≡ u
set_others k v [] a = refl
set_others k v (e ∷ u) a =
    ap (λ b. (if b then held_at (k, v) else e) ∷ set_to k v u) a.0 ∙ ap (λ rest. e ∷ rest) (set_others k v u a.1)

drop_others : (k : Key) (u : List PendingEvent) → AreOthers k u → filter (λ e. not (is_for k e)) u ≡ u
drop_others k u a = filter_all (λ e. not (is_for k e)) u (kept u a)
  where
    kept : (u : List PendingEvent) → AreOthers k u → AllByRecursion (λ e. not (is_for k e) ≡ true) u
    kept [] a = tt
    kept (e ∷ u) a = (ap not a.0, kept u a.1)

module _ (R : Key → Key → Ordering) (same : (a b : Key) (v w : ℤ) → R a b ≡ held_cmp (held_at (a, v)) (held_at (b, w))) where
  -- in the order of events
  abbrev pub AreSorted : List (Key × ℤ) → Type 0
  AreSorted es = EachBefore (λ e later. R e.0 later.0 ≡ Less) es

  above_in : (k : Key) (v : ℤ) (es : List (Key × ℤ)) → AllByRecursion (λ x. R k x.0 ≡ Less) es → Above (held_at (k, v)) (held_in es)
  above_in k v [] a = tt
  above_in k v (e ∷ es) a = (sym (same k e.0 v e.1) ∙ a.0, above_in k v es a.1)

  pub ordered_in : (es : List (Key × ℤ)) → AreSorted es → Ordered (held_in es)
  ordered_in [] r = tt
  ordered_in (e ∷ es) r = (above_in e.0 e.1 es r.0, ordered_in es r.1)

  keys_above : (k : Key) (es : List (Key × ℤ)) → AllByRecursion (λ y. R k y ≡ Less) (keys_of es) → AllByRecursion (λ x. R k x.0 ≡ Less) es
  keys_above k [] a = tt
  keys_above k (e ∷ es) a = (a.0, keys_above k es a.1)

  pub sorted_in : (es : List (Key × ℤ)) → IsStrictlySortedBy R (keys_of es) → AreSorted es
  unfolding IsStrictlySortedBy
  sorted_in [] r = tt
  sorted_in (e ∷ es) r = (keys_above e.0 es r.0, sorted_in es r.1)

  below_in : (k : Key) (v : ℤ) (es : List (Key × ℤ)) → Above (held_at (k, v)) (held_in es) → AllByRecursion (λ x. R k x.0 ≡ Less) es
  below_in k v [] a = tt
  below_in k v (e ∷ es) a = (same k e.0 v e.1 ∙ a.0, below_in k v es a.1)

  pub sorted_from : (es : List (Key × ℤ)) → Ordered (held_in es) → AreSorted es
  sorted_from [] r = tt
  sorted_from (e ∷ es) r = (below_in e.0 e.1 es r.0, sorted_from es r.1)

  pub tied : (a b : Key) → R a b ≡ Equal → a ≡ b
  tied a b h = same_key a b (sym (same a b (pos 0) (pos 0)) ∙ h)

  pub at_key : (a b : Key) (w : ℤ) (o : Ordering) → R a b ≡ o → is_for a (held_at (b, w)) ≡ is_eq o
  at_key a b w o h = same_is (held_at (a, pos 0)) (held_at (b, w)) ∙ ap is_eq (sym (same a b (pos 0) w) ∙ h)

  -- insertion is putting
  put_entry_at : (e : Key × ℤ) (es : List (Key × ℤ)) (k : Key) (v : ℤ) → held_in (insert_entry R es k v) ≡ put (held_at (k, v)) (held_in es) →
      (o : Ordering) → R k e.0 ≡ o →
      held_in (match_ordering o ((k, v) ∷ e ∷ es) ((e.0, v) ∷ es) (e ∷ insert_entry R es k v)) ≡ put (held_at (k, v)) (held_in (e ∷ es))
  put_entry_at e es k v more Less h = sym (put_less (held_at (k, v)) (held_at e) (held_in es) (sym (same k e.0 v e.1) ∙ h))
  put_entry_at e es k v more Equal h =
      ap (λ key. held_at (key, v) ∷ held_in es) (sym (tied k e.0 h))
      ∙ sym (put_equal (held_at (k, v)) (held_at e) (held_in es) (sym (same k e.0 v e.1) ∙ h))
  put_entry_at e es k v more Greater h =
      ap (λ rest. held_at e ∷ rest) more ∙ sym (put_greater (held_at (k, v)) (held_at e) (held_in es) (sym (same k e.0 v e.1) ∙ h))

  pub put_entry : (es : List (Key × ℤ)) (k : Key) (v : ℤ) → held_in (insert_entry R es k v) ≡ put (held_at (k, v)) (held_in es)
  put_entry [] k v = refl
  put_entry (e ∷ es) k v = put_entry_at e es k v (put_entry es k v) (R k e.0) refl

  others_in : (k : Key) (es : List (Key × ℤ)) → AllByRecursion (λ x. R k x.0 ≡ Less) es → AreOthers k (held_in es)
  others_in k es a = others_above k (held_in es) (above_in k (pos 0) es a)

  above_first : (e : Key × ℤ) (es : List (Key × ℤ)) (k : Key) → R k e.0 ≡ Equal → AllByRecursion (λ x. R e.0 x.0 ≡ Less) es → AllByRecursion (λ x. R k x.0 ≡ Less) es
  above_first e es k h a = subst (λ key. AllByRecursion (λ x. R key x.0 ≡ Less) es) (sym (tied k e.0 h)) a

  pub above_next : (a b : Key) (es : List (Key × ℤ)) → R a b ≡ Less → AllByRecursion (λ x. R b x.0 ≡ Less) es → AllByRecursion (λ x. R a x.0 ≡ Less) es
  above_next a b [] h r = tt
  above_next a b (e ∷ es) h r = (
    same a e.0 (pos 0) e.1
        ∙ held_total.trans (held_at (a, pos 0)) (held_at (b, pos 0)) (held_at e) (sym (same a b (pos 0) (pos 0)) ∙ h) (sym (same b e.0 (pos 0) e.1) ∙ r.0),
    above_next a b es h r.1,
  )

  -- taking out is dropping what is for the same
  remove_at : (e : Key × ℤ) (es : List (Key × ℤ)) (k : Key) → AreSorted (e ∷ es) →
      held_in (remove_entry (is_at (R k)) es) ≡ filter (λ x. not (is_for k x)) (held_in es) → (o : Ordering) → R k e.0 ≡ o →
      held_in (cond (is_eq o) es (e ∷ remove_entry (is_at (R k)) es)) ≡
      cond (not (is_eq o)) (held_at e ∷ filter (λ x. not (is_for k x)) (held_in es)) (filter (λ x. not (is_for k x)) (held_in es))
  remove_at e es k r more Less h = ap (λ rest. held_at e ∷ rest) more
  remove_at e es k r more Equal h = sym (drop_others k (held_in es) (others_in k es (above_first e es k h r.0)))
  remove_at e es k r more Greater h = ap (λ rest. held_at e ∷ rest) more

  pub remove_held : (es : List (Key × ℤ)) (k : Key) → AreSorted es → held_in (remove_entry (is_at (R k)) es) ≡ filter (λ x. not (is_for k x)) (held_in es)
  remove_held [] k r = refl
  remove_held (e ∷ es) k r =
      remove_at e es k r (remove_held es k r.1) (R k e.0) refl
      ∙ ap (λ b. cond (not b) (held_at e ∷ filter (λ x. not (is_for k x)) (held_in es)) (filter (λ x. not (is_for k x)) (held_in es)))
      (sym (at_key k e.0 e.1 (R k e.0) refl))

  pub found_not : (k : Key) (es : List (Key × ℤ)) → AllByRecursion (λ x. R k x.0 ≡ Less) es → lookup (is_at (R k)) es ≡ None
  found_not k [] a = refl
  found_not k (e ∷ es) a = ap (λ o. cond (is_eq o) (Some e.1) (lookup (is_at (R k)) es)) a.0 ∙ found_not k es a.1

  absent : (e : Key × ℤ) (es : List (Key × ℤ)) (k : Key) (v : ℤ) → (lookup (is_at (R k)) es ≡ None → set_to k v (held_in es) ≡ held_in es) → (o : Ordering) →
      is_for k (held_at e) ≡ is_eq o → cond (is_eq o) (Some e.1) (lookup (is_at (R k)) es) ≡ None → set_to k v (held_in (e ∷ es)) ≡ held_in (e ∷ es)
  absent e es k v more Less at found =
      ap (λ b. (if b then held_at (k, v) else held_at e) ∷ set_to k v (held_in es)) at ∙ ap (λ rest. held_at e ∷ rest) (more found)
  absent e es k v more Equal at found = cc
  absent e es k v more Greater at found =
      ap (λ b. (if b then held_at (k, v) else held_at e) ∷ set_to k v (held_in es)) at ∙ ap (λ rest. held_at e ∷ rest) (more found)

  -- a key that isn't there keeps all
  pub set_absent : (es : List (Key × ℤ)) (k : Key) (v : ℤ) → lookup (is_at (R k)) es ≡ None → set_to k v (held_in es) ≡ held_in es
  set_absent [] k v h = refl
  set_absent (e ∷ es) k v h = absent e es k v (set_absent es k v) (R k e.0) (at_key k e.0 e.1 (R k e.0) refl) h

  -- insertion at a key that is there is giving it the value
  set_at : (e : Key × ℤ) (es : List (Key × ℤ)) (k : Key) (v w : ℤ) → AreSorted (e ∷ es) →
      (lookup (is_at (R k)) es ≡ Some w → held_in (insert_entry R es k v) ≡ set_to k v (held_in es)) → (o : Ordering) → R k e.0 ≡ o →
      cond (is_eq o) (Some e.1) (lookup (is_at (R k)) es) ≡ Some w →
      held_in (match_ordering o ((k, v) ∷ e ∷ es) ((e.0, v) ∷ es) (e ∷ insert_entry R es k v)) ≡
      (if is_eq o then held_at (k, v) else held_at e) ∷ set_to k v (held_in es)
  set_at e es k v w r more Less h found = let none = found_not k es (above_next k e.0 es h r.0) in cc
  set_at e es k v w r more Equal h found =
      ap (λ key. held_at (key, v) ∷ held_in es) (sym (tied k e.0 h))
      ∙ ap (λ rest. held_at (k, v) ∷ rest) (sym (set_others k v (held_in es) (others_in k es (above_first e es k h r.0))))
  set_at e es k v w r more Greater h found = ap (λ rest. held_at e ∷ rest) (more found)

  pub set_present : (es : List (Key × ℤ)) (k : Key) (v w : ℤ) → AreSorted es → lookup (is_at (R k)) es ≡ Some w →
      held_in (insert_entry R es k v) ≡ set_to k v (held_in es)
  set_present [] k v w r h = cc
  set_present (e ∷ es) k v w r h =
      set_at e es k v w r (set_present es k v w r.1) (R k e.0) refl h
      ∙ ap (λ b. (if b then held_at (k, v) else held_at e) ∷ set_to k v (held_in es)) (sym (at_key k e.0 e.1 (R k e.0) refl))

  -- what an insertion did is undone
  undo_new_at : (e : Key × ℤ) (es : List (Key × ℤ)) (k : Key) (v : ℤ) → AreSorted (e ∷ es) →
      (lookup (is_at (R k)) es ≡ None → filter (λ x. not (is_for k x)) (held_in (insert_entry R es k v)) ≡ held_in es) → (o : Ordering) → R k e.0 ≡ o →
      cond (is_eq o) (Some e.1) (lookup (is_at (R k)) es) ≡ None →
      filter (λ x. not (is_for k x)) (held_in (match_ordering o ((k, v) ∷ e ∷ es) ((e.0, v) ∷ es) (e ∷ insert_entry R es k v))) ≡ held_in (e ∷ es)
  undo_new_at e es k v r more Less h found =
      ap (λ b. cond (not b) (held_at (k, v) ∷ filter (λ x. not (is_for k x)) (held_in (e ∷ es))) (filter (λ x. not (is_for k x)) (held_in (e ∷ es))))
      (same_is (held_at (k, pos 0)) (held_at (k, v)) ∙ ap is_eq (tied_itself held_total (held_at (k, pos 0))))
      ∙ drop_others k (held_in (e ∷ es)) (others_in k (e ∷ es) (h, above_next k e.0 es h r.0))
  undo_new_at e es k v r more Equal h found = cc
  undo_new_at e es k v r more Greater h found =
      ap (λ b. cond (not b) (held_at e ∷ filter (λ x. not (is_for k x)) (held_in (insert_entry R es k v))) (filter (λ x. not (is_for k x)) (held_in (insert_entry R es k v))))
      (at_key k e.0 e.1 Greater h)
      ∙ ap (λ rest. held_at e ∷ rest) (more found)

  undo_new : (es : List (Key × ℤ)) (k : Key) (v : ℤ) → AreSorted es → lookup (is_at (R k)) es ≡ None →
      filter (λ x. not (is_for k x)) (held_in (insert_entry R es k v)) ≡ held_in es
  undo_new [] k v r h =
      ap (λ b. cond (not b) (held_at (k, v) ∷ []) []) (same_is (held_at (k, pos 0)) (held_at (k, v)) ∙ ap is_eq (tied_itself held_total (held_at (k, pos 0))))
  undo_new (e ∷ es) k v r h = undo_new_at e es k v r (undo_new es k v r.1) (R k e.0) refl h

  some_is : (a b : ℤ) → Some a ≡ Some b → a ≡ b
  some_is a b h = cc

  undo_old_at : (e : Key × ℤ) (es : List (Key × ℤ)) (k : Key) (v w : ℤ) → AreSorted (e ∷ es) →
      (lookup (is_at (R k)) es ≡ Some w → set_to k w (held_in (insert_entry R es k v)) ≡ held_in es) → (o : Ordering) → R k e.0 ≡ o →
      cond (is_eq o) (Some e.1) (lookup (is_at (R k)) es) ≡ Some w →
      set_to k w (held_in (match_ordering o ((k, v) ∷ e ∷ es) ((e.0, v) ∷ es) (e ∷ insert_entry R es k v))) ≡ held_in (e ∷ es)
  undo_old_at e es k v w r more Less h found = let none = found_not k es (above_next k e.0 es h r.0) in cc
  undo_old_at e es k v w r more Equal h found =
      ap (λ b. (if b then held_at (k, w) else held_at (e.0, v)) ∷ set_to k w (held_in es)) (at_key k e.0 v Equal h)
      ∙ ap (λ rest. held_at (k, w) ∷ rest) (set_others k w (held_in es) (others_in k es (above_first e es k h r.0)))
      ∙ ap (λ key. held_at (key, w) ∷ held_in es) (tied k e.0 h)
      ∙ ap (λ value. held_at (e.0, value) ∷ held_in es) (sym (some_is e.1 w found))
  undo_old_at e es k v w r more Greater h found =
      ap (λ b. (if b then held_at (k, w) else held_at e) ∷ set_to k w (held_in (insert_entry R es k v))) (at_key k e.0 e.1 Greater h)
      ∙ ap (λ rest. held_at e ∷ rest) (more found)

  undo_old : (es : List (Key × ℤ)) (k : Key) (v w : ℤ) → AreSorted es → lookup (is_at (R k)) es ≡ Some w →
      set_to k w (held_in (insert_entry R es k v)) ≡ held_in es
  undo_old [] k v w r h = cc
  undo_old (e ∷ es) k v w r h = undo_old_at e es k v w r (undo_old es k v w r.1) (R k e.0) refl h

  pub undo_put : (es : List (Key × ℤ)) (k : Key) (v : ℤ) (was : Option ℤ) → AreSorted es → lookup (is_at (R k)) es ≡ was →
      undo_to k was (held_in (insert_entry R es k v)) ≡ held_in es
  undo_put es k v None r h = undo_new es k v r h
  undo_put es k v (Some w) r h = undo_old es k v w r h
