-- A key against entries in order: those before it, the first and the last, and where a search finds it.
use Rattle.std.proofs.Common.{◌≡◌, ℤ, pos, true, false, cond, ℕ, zero, suc, ◌+◌, ◌≤◌, List, [], ◌∷◌, ◌++◌, length, get_or, take, rules, arith, ap, sym, subst, refl, ◌∙◌, None, Some, Result, Ok, Err, true≢false, Ordering, Less, Equal, Greater}
use Rattle.std.specs.Prelude.{IfSome, IfNone}
use Rattle.std.specs.Result.{result_ok}
use Rattle.std.specs.List.{AllByRecursion, HoldsAt}
use Rattle.std.specs.List.Sorted.{IsPartitionPoint, IsBinarySearchResult}
use Rattle.std.specs.Ordering.{match_ordering, ordering_index, is_eq, is_lt}
use Rattle.std.specs.BTreeMap.{insert_entry, is_at}
use Rattle.std.specs.Map.{remove_entry, lookup}
use Rattle.std.proofs.Math.Seq.{split_at}
use Rattle.std.proofs.lemmas.Cmp.{tied_itself}
use Rattle.std.proofs.lemmas.List.{drop_all}
use Rattle.std.proofs.lemmas.List.Elements.{AllWithin-none}
use Rattle.network.specs.Undone.{Rises}
use Rattle.reactor_agenda.specs.declared.key.Key.{Key}
use Rattle.reactor_agenda.specs.Invariant.{held_at, held_in, key_cmp, to_first, to_last, AreOthers}
use Rattle.reactor_agenda.proofs.Order.{held_total}
use Rattle.reactor_agenda.proofs.Putting.{rises, ordered}
use Rattle.reactor_agenda.proofs.Putting as putting
use Rattle.reactor_agenda.proofs.Keyed.{same}
use Rattle.reactor_agenda.proofs.Searched.{rises_by}
use Rattle.reactor_agenda.proofs.Entries as entries

abbrev pub AreSorted : List (Key × ℤ) → Type 0
AreSorted es = entries.AreSorted key_cmp same es

pub sorted_of : (es : List (Key × ℤ)) → Rises (held_in es) → AreSorted es
sorted_of es r = entries.sorted_from key_cmp same es (ordered (held_in es) r)

pub sorted_left : (fs es : List (Key × ℤ)) → AreSorted (fs ++ es) → AreSorted fs
sorted_left [] es r = tt
sorted_left (f ∷ fs) es r = (all_left (λ x. key_cmp f.0 x.0 ≡ Less) fs es r.0, sorted_left fs es r.1)
  where
    all_left : (P : Key × ℤ → Type 0) (fs es : List (Key × ℤ)) → AllByRecursion P (fs ++ es) → AllByRecursion P fs
    all_left P [] es a = tt
    all_left P (f ∷ fs) es a = (a.0, all_left P fs es a.1)

pub sorted_right : (fs es : List (Key × ℤ)) → AreSorted (fs ++ es) → AreSorted es
sorted_right [] es r = r
sorted_right (f ∷ fs) es r = sorted_right fs es r.1

pub rises_left : (fs es : List (Key × ℤ)) → Rises (held_in (fs ++ es)) → Rises (held_in fs)
rises_left fs es r = rises (held_in fs) (entries.ordered_in key_cmp same fs (sorted_left fs es (sorted_of (fs ++ es) r)))

-- ---- the keys before a key

-- all are before the key
abbrev pub ArePast : Key → List (Key × ℤ) → Type 0
ArePast k es = AllByRecursion (λ e. key_cmp k e.0 ≡ Greater) es

turned : (a b : Key) → key_cmp a b ≡ Less → key_cmp b a ≡ Greater
turned a b = putting.turned (held_at (a, pos 0)) (held_at (b, pos 0))

turned_back : (a b : Key) → key_cmp a b ≡ Greater → key_cmp b a ≡ Less
turned_back a b = putting.turned_back (held_at (a, pos 0)) (held_at (b, pos 0))

less_less : (a b c : Key) → key_cmp a b ≡ Less → key_cmp b c ≡ Less → key_cmp a c ≡ Less
less_less a b c = held_total.trans (held_at (a, pos 0)) (held_at (b, pos 0)) (held_at (c, pos 0))

pub itself : (k : Key) → key_cmp k k ≡ Equal
itself k = tied_itself held_total (held_at (k, pos 0))

-- past the first of two in order
past_next : (k a b : Key) → key_cmp a b ≡ Less → key_cmp k b ≡ Greater → key_cmp k a ≡ Greater
past_next k a b h g = turned a k (less_less a b k h (turned_back k b g))

all_middle : (P : Key × ℤ → Type 0) (fs : List (Key × ℤ)) (e : Key × ℤ) (es : List (Key × ℤ)) → AllByRecursion P (fs ++ e ∷ es) → P e
all_middle P [] e es a = a.0
all_middle P (f ∷ fs) e es a = all_middle P fs e es a.1

pub past_middle : (fs : List (Key × ℤ)) (e : Key × ℤ) (es : List (Key × ℤ)) → AreSorted (fs ++ e ∷ es) → ArePast e.0 fs
past_middle [] e es r = tt
past_middle (f ∷ fs) e es r = (turned f.0 e.0 (all_middle (λ x. key_cmp f.0 x.0 ≡ Less) fs e es r.0), past_middle fs e es r.1)

pub others_past : (k : Key) (fs : List (Key × ℤ)) → ArePast k fs → AreOthers k fs
others_past k [] a = tt
others_past k (f ∷ fs) a = (ap is_eq a.0, others_past k fs a.1)

-- ---- entries past those

pub insert_past : (k : Key) (v : ℤ) (fs es : List (Key × ℤ)) → ArePast k fs → insert_entry key_cmp (fs ++ es) k v ≡ fs ++ insert_entry key_cmp es k v
insert_past k v [] es a = refl
insert_past k v (f ∷ fs) es a =
    ap (λ o. match_ordering o ((k, v) ∷ f ∷ (fs ++ es)) ((f.0, v) ∷ (fs ++ es)) (f ∷ insert_entry key_cmp (fs ++ es) k v)) a.0
    ∙ ap (λ l. f ∷ l) (insert_past k v fs es a.1)

pub lookup_past : (k : Key) (fs es : List (Key × ℤ)) → AreOthers k fs → lookup (is_at (key_cmp k)) (fs ++ es) ≡ lookup (is_at (key_cmp k)) es
lookup_past k [] es a = refl
lookup_past k (f ∷ fs) es a = ap (λ b. cond b (Some f.1) (lookup (is_at (key_cmp k)) (fs ++ es))) a.0 ∙ lookup_past k fs es a.1

pub remove_past : (k : Key) (fs es : List (Key × ℤ)) → AreOthers k fs → remove_entry (is_at (key_cmp k)) (fs ++ es) ≡ fs ++ remove_entry (is_at (key_cmp k)) es
remove_past k [] es a = refl
remove_past k (f ∷ fs) es a =
    ap (λ b. cond b (fs ++ es) (f ∷ remove_entry (is_at (key_cmp k)) (fs ++ es))) a.0 ∙ ap (λ l. f ∷ l) (remove_past k fs es a.1)

-- in place of one
pub inserted_middle : (gs es : List (Key × ℤ)) (k : Key) (v w : ℤ) → AreSorted (gs ++ (k, w) ∷ es) → insert_entry key_cmp (gs ++ (k, w) ∷ es) k v ≡ gs ++ (k, v) ∷ es
inserted_middle gs es k v w r =
    insert_past k v gs ((k, w) ∷ es) (past_middle gs (k, w) es r)
    ∙ ap (λ o. gs ++ match_ordering o ((k, v) ∷ (k, w) ∷ es) ((k, v) ∷ es) ((k, w) ∷ insert_entry key_cmp es k v)) (itself k)

pub found_middle : (gs es : List (Key × ℤ)) (k : Key) (w : ℤ) → AreSorted (gs ++ (k, w) ∷ es) → lookup (is_at (key_cmp k)) (gs ++ (k, w) ∷ es) ≡ Some w
found_middle gs es k w r =
    lookup_past k gs ((k, w) ∷ es) (others_past k gs (past_middle gs (k, w) es r))
    ∙ ap (λ o. cond (is_eq o) (Some w) (lookup (is_at (key_cmp k)) es)) (itself k)

pub insert_front : (e : Key × ℤ) (es : List (Key × ℤ)) → AreSorted (e ∷ es) → insert_entry key_cmp es e.0 e.1 ≡ e ∷ es
insert_front e [] r = refl
insert_front e (x ∷ es) r = ap (λ o. match_ordering o (e ∷ x ∷ es) ((x.0, e.1) ∷ es) (x ∷ insert_entry key_cmp es e.0 e.1)) r.0.0

-- ---- the first and the last

equal_if : (o : Ordering) → is_eq o ≡ true → o ≡ Equal
equal_if Less h = cc
equal_if Equal h = refl
equal_if Greater h = cc

pub less_if : (o : Ordering) → is_lt o ≡ true → o ≡ Less
less_if Less h = refl
less_if Equal h = cc
less_if Greater h = cc

pub greater_if : (o : Ordering) → is_lt o ≡ false → is_eq o ≡ false → o ≡ Greater
greater_if Less h k = cc
greater_if Equal h k = cc
greater_if Greater h k = refl

pub past_last : (k : Key) (es : List (Key × ℤ)) → AreSorted es → to_last k es ≡ Greater → ArePast k es
past_last k [] r h = tt
past_last k (e ∷ []) r h = (h, tt)
past_last k (e ∷ x ∷ es) r h = let more = past_last k (x ∷ es) r.1 h in (past_next k e.0 x.0 r.0.0 more.0, more)

last_is : (k : Key) (es : List (Key × ℤ)) (e : Key × ℤ) → to_last k (es ++ e ∷ []) ≡ key_cmp k e.0
last_is k [] e = refl
last_is k (x ∷ []) e = refl
last_is k (x ∷ y ∷ es) e = last_is k (y ∷ es) e

pub last_at : (k : Key) (es : List (Key × ℤ)) (i : ℕ) (e : Key × ℤ) → i + 1 ≡ length es → e ≡ get_or es i e → to_last k es ≡ key_cmp k e.0
last_at k es i e h is =
    let none = drop_all (suc i) es (omega arith) in
    ap (to_last k) (split_at es i e (omega arith) ∙ ap (λ l. take i es ++ get_or es i e ∷ l) none) ∙ last_is k (take i es) (get_or es i e)
    ∙ ap (λ x. key_cmp k x.0) (sym is)

pub last_taken : (k : Key) (es gs : List (Key × ℤ)) (e : Key × ℤ) → es ≡ gs ++ e ∷ [] → is_eq (to_last k es) ≡ true → es ≡ gs ++ (k, e.1) ∷ []
last_taken k es gs e is last =
    let at = equal_if (key_cmp k e.0) (ap is_eq (sym (last_is k gs e) ∙ ap (to_last k) (sym is)) ∙ last) in
    is ∙ ap (λ key. gs ++ (key, e.1) ∷ []) (sym (entries.tied key_cmp same k e.0 at))

pub first_of : (k : Key) (v : ℤ) (es : List (Key × ℤ)) → to_first k es ≡ Less → (k, v) ∷ es ≡ insert_entry key_cmp es k v
first_of k v [] h = refl
first_of k v (e ∷ es) h = sym (ap (λ o. match_ordering o ((k, v) ∷ e ∷ es) ((e.0, v) ∷ es) (e ∷ insert_entry key_cmp es k v)) h)

pub none_first : (k : Key) (es : List (Key × ℤ)) → AreSorted es → to_first k es ≡ Less → lookup (is_at (key_cmp k)) es ≡ None
none_first k [] r h = refl
none_first k (e ∷ es) r h = entries.found_not key_cmp same k (e ∷ es) (h, entries.above_next key_cmp same k e.0 es h r.0)

pub first_all : (k : Key) (front rest : List (Key × ℤ)) → (front ≡ [] → rest ≡ []) → to_first k front ≡ Less → to_first k (front ++ rest) ≡ Less
first_all k [] rest next h = ap (to_first k) (next refl)
first_all k (e ∷ front) rest next h = h

-- the first stays where it isn't later than the key
pub first_stays : (k : Key) (fs gs : List (Key × ℤ)) (e : Key × ℤ) → fs ≡ gs ++ e ∷ [] → is_lt (to_last k fs) ≡ true → is_lt (to_first k fs) ≡ false →
    to_first k gs ≡ to_first k fs
first_stays k fs gs e is last first =
    stays gs (ap is_lt (sym (last_is k gs e) ∙ ap (to_last k) (sym is)) ∙ last) (ap (λ l. is_lt (to_first k l)) (sym is) ∙ first) ∙ ap (to_first k) (sym is)
  where
    stays : (gs : List (Key × ℤ)) → is_lt (key_cmp k e.0) ≡ true → is_lt (to_first k (gs ++ e ∷ [])) ≡ false → to_first k gs ≡ to_first k (gs ++ e ∷ [])
    stays [] last first = absurd (true≢false (sym last ∙ first))
    stays (x ∷ gs) last first = refl

-- ---- where a search finds a key

less_turned : (a b : Key) → key_cmp a b ≡ Less → is_eq (key_cmp b a) ≡ false
less_turned a b h = ap is_eq (turned a b h)

greater_turned : (a b : Key) → key_cmp a b ≡ Greater → is_eq (key_cmp b a) ≡ false
greater_turned a b h = ap is_eq (turned_back a b h)

others_around : (k : Key) (es : List (Key × ℤ)) (i : ℕ) → IsPartitionPoint (λ e. key_cmp e.0 k ≡ Less) (λ e. key_cmp e.0 k ≡ Greater) es i → AreOthers k es
others_around k [] i a = tt
others_around k (e ∷ es) zero a = (
  greater_turned e.0 k (a.1 0 e (omega arith) (omega arith)),
  others_around k es 0 (AllWithin-none (λ e. key_cmp e.0 k ≡ Less) es 0, λ n d l h. a.1 (suc n) d (omega arith) (omega arith)),
)
others_around k (e ∷ es) (suc i) a = (
  less_turned e.0 k (a.0 0 e (omega arith) (omega arith)),
  others_around k es i (λ n d l h. a.0 (suc n) d (omega arith) (omega arith), λ n d l h. a.1 (suc n) d (omega arith) (omega arith)),
)

index_most : (o : Ordering) → ordering_index o ≤ 2
index_most Less = search rules
index_most Equal = search rules
index_most Greater = search rules

order_rises : (k a b : Key) → key_cmp a b ≡ Less → ordering_index (key_cmp a k) ≤ ordering_index (key_cmp b k)
order_rises k a b h = by (key_cmp b k) refl
  where
    by : (o : Ordering) → key_cmp b k ≡ o → ordering_index (key_cmp a k) ≤ ordering_index (key_cmp b k)
    by Less p = let low : ordering_index (key_cmp a k) ≡ 0 = ap ordering_index (less_less a b k h p) in omega arith
    by Equal p =
        let low : ordering_index (key_cmp a k) ≡ 0 = ap ordering_index (subst (λ c. key_cmp a c ≡ Less) (entries.tied key_cmp same b k p) h) in omega arith
    by Greater p =
        let high : ordering_index (key_cmp b k) ≡ 2 = ap ordering_index p in
        let most = index_most (key_cmp a k) in omega arith

pub found_at : (k : Key) (es : List (Key × ℤ)) (r : Result ℕ ℕ) → IsBinarySearchResult (λ e. key_cmp e.0 k) es r →
    IfSome (result_ok r) (HoldsAt (λ e. key_cmp e.0 k ≡ Equal) es)
found_at k es (Ok i) p = p
found_at k es (Err i) p = tt

pub found_none : (k : Key) (es : List (Key × ℤ)) (r : Result ℕ ℕ) → Rises (held_in es) → IsBinarySearchResult (λ e. key_cmp e.0 k) es r →
    IfNone (result_ok r) (AreOthers k es)
found_none k es (Ok i) rises p = tt
found_none k es (Err i) rises p =
    others_around k es i (p (rises_by (λ (e x : Key × ℤ). key_cmp e.0 x.0 ≡ Less) (λ e. ordering_index (key_cmp e.0 k)) es (λ e x. order_rises k e.0 x.0) (sorted_of es rises)))
