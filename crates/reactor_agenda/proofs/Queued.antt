-- What was put, some of it in front: a value put, taken out and replaced, as over all entries.
use Rattle.std.proofs.Common.{◌≡◌, ℤ, pos, Bool, true, false, cond, not, ℕ, zero, suc, ◌<◌, List, [], ◌∷◌, ◌++◌, length, get_or, take, drop, set, append_assoc, arith, ap, sym, subst, refl, ◌∙◌, Option, None, Some, true≢false, Less, Equal}
use Rattle.std.specs.Prelude.{if◌then◌else◌, filter}
use Rattle.std.specs.List.{remove}
use Rattle.std.specs.Ordering.{is_eq, is_lt}
use Rattle.std.specs.BTreeMap.{insert_entry, is_at}
use Rattle.std.specs.Map.{remove_entry, lookup}
use Rattle.std.proofs.Math.Seq.{split_at}
use Rattle.std.proofs.lemmas.Bool.Decides.{nat_tests}
use Rattle.std.proofs.lemmas.List.{set_split}
use Rattle.network.specs.Undone.{PendingEvent, is_for_same, put, Rises}
use Rattle.reactor_agenda.specs.declared.key.Key.{Key}
use Rattle.reactor_agenda.specs.Invariant.{held_at, held_in, key_cmp, to_first, to_last, undo_to, AreOthers, IsQueued}
use Rattle.reactor_agenda.proofs.Order.{held_cmp}
use Rattle.reactor_agenda.proofs.Putting.{rises, ordered, ordered_put, Above, Ordered}
use Rattle.reactor_agenda.proofs.Filtered.{all_filter}
use Rattle.reactor_agenda.proofs.Keyed.{same, put_entry, remove_held}
use Rattle.reactor_agenda.proofs.Past.{AreSorted, ArePast, sorted_of, sorted_left, sorted_right, itself, past_middle, past_last, others_past, insert_past, lookup_past, remove_past, inserted_middle, found_middle, insert_front, less_if, greater_if, first_of, none_first, first_all}
use Rattle.reactor_agenda.proofs.Entries as entries

-- in order, and as events
pub record IsHeld (front rest : List (Key × ℤ)) (u : List PendingEvent) : Type 0 where
  pub rising : Rises (held_in (front ++ rest))
  pub all_are : held_in (front ++ rest) ≡ u

pub held_by : {old others front rest : List (Key × ℤ)} {u : List PendingEvent} → IsQueued old others → held_in (old ++ others) ≡ u →
    front ++ rest ≡ old ++ others → IsHeld front rest u
held_by q s all = record { rising = subst (λ es. Rises (held_in es)) (sym all) q.rising; all_are = ap held_in all ∙ s }

-- a value was put, and can be taken back
pub record IsPut (k : Key) (v : ℤ) (was : Option ℤ) (u : List PendingEvent) (front rest : List (Key × ℤ)) : Type 0 where
  pub put_is : held_in (front ++ rest) ≡ put (held_at (k, v)) u
  pub undo_is : undo_to k was (held_in (front ++ rest)) ≡ u
  pub queued : IsQueued front rest

entered : (front rest old others : List (Key × ℤ)) (u : List PendingEvent) (k : Key) (v : ℤ) (was : Option ℤ) → IsHeld old others u →
    front ++ rest ≡ insert_entry key_cmp (old ++ others) k v → lookup (is_at (key_cmp k)) (old ++ others) ≡ was → (front ≡ [] → rest ≡ []) →
    IsPut k v was u front rest
entered front rest old others u k v was i is found next =
    let all = old ++ others in
    record {
      put_is = ap held_in is ∙ put_entry all k v ∙ ap (put (held_at (k, v))) i.all_are;
      undo_is = ap (λ es. undo_to k was (held_in es)) is ∙ entries.undo_put key_cmp same all k v was (sorted_of all i.rising) found ∙ i.all_are;
      queued = record {
        rising = subst (λ es. Rises (held_in es)) (sym is) (subst Rises (sym (put_entry all k v))
            (rises (put (held_at (k, v)) (held_in all)) (ordered_put (held_at (k, v)) (held_in all) (ordered (held_in all) i.rising))));
        next = next;
      };
    }

-- ---- a value is put

-- before all
pub put_before : (front rest new : List (Key × ℤ)) (u : List PendingEvent) (k : Key) (v : ℤ) → IsHeld front rest u → (front ≡ [] → rest ≡ []) →
    is_lt (to_first k front) ≡ true → new ≡ (k, v) ∷ front → IsPut k v None u new rest
put_before front rest new u k v i next h is =
    let first = first_all k front rest next (less_if (to_first k front) h) in
    entered new rest front rest u k v None i (ap (λ l. l ++ rest) is ∙ first_of k v (front ++ rest) first)
    (none_first k (front ++ rest) (sorted_of (front ++ rest) i.rising) first) (λ none. let no : (k, v) ∷ front ≡ [] = sym is ∙ none in cc)

past_front : (k : Key) (front rest : List (Key × ℤ)) (u : List PendingEvent) → IsHeld front rest u → is_lt (to_last k front) ≡ false → is_eq (to_last k front) ≡ false →
    ArePast k front
past_front k front rest u i h g = past_last k front (sorted_left front rest (sorted_of (front ++ rest) i.rising)) (greater_if (to_last k front) h g)

some_first : {A : Type 0} (k : Key) (front : List (Key × ℤ)) → is_lt (to_first k front) ≡ false → front ≡ [] → A
some_first k front f none = absurd (true≢false (sym (ap (λ l. is_lt (to_first k l)) none) ∙ f))

module _ (front gs rest new : List (Key × ℤ)) (u : List PendingEvent) (k : Key) where
  -- after those in front
  pub put_after : (v : ℤ) (was : Option ℤ) → IsHeld front rest u → is_lt (to_first k front) ≡ false → is_lt (to_last k front) ≡ false →
      (gs ≡ front) × (is_eq (to_last k front) ≡ false) → new ≡ insert_entry key_cmp rest k v → lookup (is_at (key_cmp k)) rest ≡ was → IsPut k v was u gs new
  put_after v was i f h g is found =
      let past = past_front k front rest u i h g.1 in
      entered gs new front rest u k v was i (ap (λ l. l ++ new) g.0 ∙ ap (λ l. front ++ l) is ∙ sym (insert_past k v front rest past))
      (lookup_past k front rest (others_past k front past) ∙ found) (λ none. some_first k front f (sym g.0 ∙ none))

  -- where there was no memory for it
  pub put_not : IsHeld front rest u → is_lt (to_first k front) ≡ false → gs ≡ front → new ≡ rest → IsQueued gs new
  put_not i f same_front same_rest = record {
    rising = subst (λ l. Rises (held_in (gs ++ l))) (sym same_rest) (subst (λ l. Rises (held_in (l ++ rest))) (sym same_front) i.rising);
    next = λ none. some_first k front f (sym same_front ∙ none);
  }

  -- after all
  pub put_back : (v : ℤ) → IsHeld front rest u → is_lt (to_last k front) ≡ false → (gs ≡ front) × (is_eq (to_last k front) ≡ false) → rest ≡ [] →
      new ≡ gs ++ (k, v) ∷ [] → IsPut k v None u new rest
  put_back v i h g none is =
      let past = past_front k front rest u i h g.1 in
      entered new rest front rest u k v None i
      (ap (λ l. l ++ rest) (is ∙ ap (λ l. l ++ (k, v) ∷ []) g.0) ∙ append_assoc front ((k, v) ∷ []) rest ∙ ap (λ l. front ++ (k, v) ∷ l) none
      ∙ ap (λ l. front ++ insert_entry key_cmp l k v) (sym none) ∙ sym (insert_past k v front rest past))
      (lookup_past k front rest (others_past k front past) ∙ ap (lookup (is_at (key_cmp k))) none) (λ h. none)

not_empty : {A : Type 0} (gs : List (Key × ℤ)) (e : Key × ℤ) → gs ++ e ∷ [] ≡ [] → A
not_empty [] e h = cc
not_empty (g ∷ gs) e h = cc

-- in place of the last of those in front
pub put_over : (front rest gs new : List (Key × ℤ)) (u : List PendingEvent) (k : Key) (v w : ℤ) → IsHeld front rest u → front ≡ gs ++ (k, w) ∷ [] →
    new ≡ gs ++ (k, v) ∷ [] → IsPut k v (Some w) u new rest
put_over front rest gs new u k v w i was is =
    let joined : front ++ rest ≡ gs ++ (k, w) ∷ rest = ap (λ l. l ++ rest) was ∙ append_assoc gs ((k, w) ∷ []) rest in
    let sorted : AreSorted (gs ++ (k, w) ∷ rest) = subst AreSorted joined (sorted_of (front ++ rest) i.rising) in
    entered new rest front rest u k v (Some w) i
    (ap (λ l. l ++ rest) is ∙ append_assoc gs ((k, v) ∷ []) rest ∙ sym (ap (λ l. insert_entry key_cmp l k v) joined ∙ inserted_middle gs rest k v w sorted))
    (ap (lookup (is_at (key_cmp k))) joined ∙ found_middle gs rest k w sorted) (λ none. not_empty gs (k, v) (sym is ∙ none))

-- ---- the last of those in front goes over to the others

pub moved : (fs gs es new : List (Key × ℤ)) (e : Key × ℤ) → Rises (held_in (fs ++ es)) → fs ≡ gs ++ e ∷ [] → new ≡ insert_entry key_cmp es e.0 e.1 →
    gs ++ new ≡ fs ++ es
moved fs gs es new e r is new_is =
    let joined : fs ++ es ≡ gs ++ e ∷ es = ap (λ l. l ++ es) is ∙ append_assoc gs (e ∷ []) es in
    let sorted = sorted_right gs (e ∷ es) (sorted_of (gs ++ e ∷ es) (subst (λ l. Rises (held_in l)) joined r)) in
    ap (λ l. gs ++ l) (new_is ∙ insert_front e es sorted) ∙ sym joined

-- ---- taken out

placed : (fs es : List (Key × ℤ)) (k : Key) (i : ℕ) (d : Key × ℤ) → i < length fs → key_cmp (get_or fs i d).0 k ≡ Equal →
    fs ++ es ≡ take i fs ++ (k, (get_or fs i d).1) ∷ (drop (suc i) fs ++ es)
placed fs es k i d h at =
    ap (λ l. l ++ es) (split_at fs i d h) ∙ append_assoc (take i fs) (get_or fs i d ∷ drop (suc i) fs) es
    ∙ ap (λ key. take i fs ++ (key, (get_or fs i d).1) ∷ (drop (suc i) fs ++ es)) (entries.tied key_cmp same (get_or fs i d).0 k at)

removed_middle : (gs es : List (Key × ℤ)) (u : List PendingEvent) (k : Key) (w : ℤ) → Rises (held_in (gs ++ (k, w) ∷ es)) → held_in (gs ++ (k, w) ∷ es) ≡ u →
    held_in (gs ++ es) ≡ undo_to k None u
removed_middle gs es u k w r s =
    let past = past_middle gs (k, w) es (sorted_of (gs ++ (k, w) ∷ es) r) in
    ap (λ l. held_in (gs ++ l)) (sym (ap (λ o. cond (is_eq o) es ((k, w) ∷ remove_entry (is_at (key_cmp k)) es)) (itself k)))
    ∙ ap held_in (sym (remove_past k gs ((k, w) ∷ es) (others_past k gs past))) ∙ remove_held (gs ++ (k, w) ∷ es) k r ∙ ap (undo_to k None) s

pub removed_at : (fs new es : List (Key × ℤ)) (u : List PendingEvent) (k : Key) (i : ℕ) (d : Key × ℤ) → Rises (held_in (fs ++ es)) → held_in (fs ++ es) ≡ u →
    i < length fs → key_cmp (get_or fs i d).0 k ≡ Equal → new ≡ remove fs i → held_in (new ++ es) ≡ undo_to k None u
removed_at fs new es u k i d r s h at is =
    let whole = placed fs es k i d h at in
    ap (λ l. held_in (l ++ es)) is ∙ ap held_in (append_assoc (take i fs) (drop (suc i) fs) es)
    ∙ removed_middle (take i fs) (drop (suc i) fs ++ es) u k (get_or fs i d).1 (subst (λ l. Rises (held_in l)) whole r) (ap held_in (sym whole) ∙ s)

pub removed_past : (fs es new : List (Key × ℤ)) (u : List PendingEvent) (k : Key) → Rises (held_in (fs ++ es)) → held_in (fs ++ es) ≡ u → AreOthers k fs →
    new ≡ remove_entry (is_at (key_cmp k)) es → held_in (fs ++ new) ≡ undo_to k None u
removed_past fs es new u k r s a is =
    ap (λ l. held_in (fs ++ l)) is ∙ ap held_in (sym (remove_past k fs es a)) ∙ remove_held (fs ++ es) k r ∙ ap (undo_to k None) s

ordered_if : (b : Bool) (x : PendingEvent) (u : List PendingEvent) → Above x u → Ordered u → Ordered (cond b (x ∷ u) u)
ordered_if true x u a r = (a, r)
ordered_if false x u a r = r

ordered_filter : (p : PendingEvent → Bool) (u : List PendingEvent) → Ordered u → Ordered (filter p u)
ordered_filter p [] r = tt
ordered_filter p (x ∷ u) r = ordered_if (p x) x (filter p u) (all_filter (λ y. held_cmp x y ≡ Less) p u r.0) (ordered_filter p u r.1)

pub rises_without : (k : Key) (u new : List PendingEvent) → new ≡ undo_to k None u → Rises u → Rises new
rises_without k u new is r =
    subst Rises (sym is) (rises (undo_to k None u) (ordered_filter (λ e. not (is_for_same (held_at (k, pos 0)) e)) u (ordered u r)))

-- ---- given another value

pub replaced_at : (fs new es : List (Key × ℤ)) (u : List PendingEvent) (k : Key) (v : ℤ) (i : ℕ) (d : Key × ℤ) → Rises (held_in (fs ++ es)) → held_in (fs ++ es) ≡ u →
    i < length fs → key_cmp (get_or fs i d).0 k ≡ Equal → new ≡ set fs i (k, v) → held_in (new ++ es) ≡ undo_to k (Some v) u
replaced_at fs new es u k v i d r s h at is =
    let w = (get_or fs i d).1 in
    let hs = drop (suc i) fs ++ es in
    let whole = placed fs es k i d h at in
    let sorted = sorted_of (take i fs ++ (k, w) ∷ hs) (subst (λ l. Rises (held_in l)) whole r) in
    ap (λ l. held_in (l ++ es)) (is ∙ set_split fs i (k, v) h) ∙ ap held_in (append_assoc (take i fs) ((k, v) ∷ drop (suc i) fs) es)
    ∙ ap held_in (sym (inserted_middle (take i fs) hs k v w sorted))
    ∙ entries.set_present key_cmp same (take i fs ++ (k, w) ∷ hs) k v w sorted (found_middle (take i fs) hs k w sorted)
    ∙ ap (undo_to k (Some v)) (ap held_in (sym whole) ∙ s)

pub replaced_past : (fs es new : List (Key × ℤ)) (k : Key) (v : ℤ) → AreOthers k fs → held_in new ≡ undo_to k (Some v) (held_in es) →
    held_in (fs ++ new) ≡ undo_to k (Some v) (held_in (fs ++ es))
replaced_past [] es new k v a is = is
replaced_past (f ∷ fs) es new k v a is =
    ap (λ l. held_at f ∷ l) (replaced_past fs es new k v a.1 is)
    ∙ sym (ap (λ b. (if b then held_at (k, v) else held_at f) ∷ undo_to k (Some v) (held_in (fs ++ es))) (entries.at_key key_cmp same k f.0 f.1 (key_cmp k f.0) refl ∙ a.0))

less_left : (a e x : PendingEvent) → held_cmp e x ≡ Less → held_cmp (if is_for_same a e then a else e) x ≡ Less
less_left a e x h = grind (arith, nat_tests)

less_right : (a e x : PendingEvent) → held_cmp e x ≡ Less → held_cmp e (if is_for_same a x then a else x) ≡ Less
less_right a e x h = grind (arith, nat_tests)

above_with : (k : Key) (v : ℤ) (e : PendingEvent) (u : List PendingEvent) → Above e u → Above (if is_for_same (held_at (k, v)) e then held_at (k, v) else e) (undo_to k (Some v) u)
above_with k v e [] a = tt
above_with k v e (x ∷ u) a = (
  less_left (held_at (k, v)) e (if is_for_same (held_at (k, v)) x then held_at (k, v) else x) (less_right (held_at (k, v)) e x a.0),
  above_with k v e u a.1,
)

ordered_with : (k : Key) (v : ℤ) (u : List PendingEvent) → Ordered u → Ordered (undo_to k (Some v) u)
ordered_with k v [] r = tt
ordered_with k v (e ∷ u) r = (above_with k v e u r.0, ordered_with k v u r.1)

pub rises_with : (k : Key) (v : ℤ) (u new : List PendingEvent) → new ≡ undo_to k (Some v) u → Rises u → Rises new
rises_with k v u new is r = subst Rises (sym is) (rises (undo_to k (Some v) u) (ordered_with k v u (ordered u r)))

-- ---- nothing is left

pub none_left : (es : List (Key × ℤ)) → length es ≡ 0 → es ≡ []
none_left [] h = refl
none_left (e ∷ es) h = absurd (omega arith)

pub set_none : (fs : List (Key × ℤ)) (i : ℕ) (e : Key × ℤ) → set fs i e ≡ [] → fs ≡ []
set_none [] i e h = refl
set_none (f ∷ fs) zero e h = cc
set_none (f ∷ fs) (suc i) e h = cc

pub none_held : (es : List (Key × ℤ)) → held_in es ≡ [] → es ≡ []
none_held [] h = refl
none_held (e ∷ es) h = cc
