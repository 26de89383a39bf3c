-- What is present at a tag is written entry by entry.
use Rattle.std.proofs.Common.{◌≡◌, ℕ, zero, suc, ◌+◌, ◌<◌, ◌≤◌, ℤ, Bool, true, false, cond, List, [], ◌∷◌, ◌++◌, length, get_or, take, set, refl, sym, ap, subst, ◌∙◌, arith, map, Option, Some, Result, Ok, Err, Ordering, Less, Equal, Greater}
use Rattle.std.specs.Prelude.{if◌then◌else◌, ◌&&◌, nat_lt, nat_eq, find}
use Rattle.std.specs.List.{AllByRecursion, HoldsAt, insert}
use Rattle.std.specs.List.Sorted.{IsPartitionPoint, IsNonDecreasingBy}
use Rattle.std.specs.Ordering.{nat_cmp, ordering_index}
use Rattle.std.specs.Option.{option_map}
use Rattle.std.specs.Result.{OnOk}
use Rattle.std.proofs.lemmas.Bool.Decides.{nat_tests}
use Rattle.std.proofs.lemmas.List.{map-append, take_more}
use Rattle.std.proofs.lemmas.List.Elements.{filter-append}
use Rattle.tag.specs.LogicalTime.{LogicalTime, is_before, is_at_most, is_same}
use Rattle.tag.proofs.Order.{not_at_most, after_not_same}
use Rattle.network.specs.Event.{Entry, value_at}
use Rattle.network.specs.Undone.{PendingEvent, look}
use Rattle.reactor_agenda.specs.declared.key.Key.{Key}
use Rattle.reactor_agenda.specs.declared.firings.Firings.{Firings}
use Rattle.reactor_agenda.specs.Agenda.{present_in}
use Rattle.reactor_agenda.specs.Invariant.{held_at, held_in, firings_of, all_firings}
use Rattle.reactor_agenda.specs.Present.{entry_of, set_entry, set_entries, AreInPlace}
use Rattle.reactor_agenda.proofs.Putting.{Ordered}
use Rattle.reactor_agenda.proofs.Filtered.{filter_none}
use Rattle.reactor_agenda.proofs.Searched.{all_at, rises_by}
use Rattle.reactor_agenda.proofs.Due.{all_after}
use Rattle.reactor_agenda.proofs.TimerLists.{all_firings-push}
use Rattle.reactor_agenda.proofs.Fired.{those_at}

-- what is present at a tag of these, as entries
abbrev pub entries_at : LogicalTime → List PendingEvent → List Entry
entries_at tag u = map entry_of (those_at tag u)

-- ---- an entry is set in its place

lower_skips : (e x : Entry) (xs : List Entry) → x.place < e.place → set_entry e (x ∷ xs) ≡ x ∷ set_entry e xs
lower_skips e x xs h = grind (arith, nat_tests)

same_goes : (e x : Entry) (xs : List Entry) → x.place ≡ e.place → set_entry e (x ∷ xs) ≡ e ∷ xs
same_goes e x xs h = grind (arith, nat_tests)

higher_follows : (e x : Entry) (xs : List Entry) → e.place < x.place → set_entry e (x ∷ xs) ≡ e ∷ x ∷ xs
higher_follows e x xs h = grind (arith, nat_tests)

is_lower : (a b : ℕ) → nat_cmp a b ≡ Less → a < b
is_lower a b h = grind (arith, nat_tests)

is_higher : (a b : ℕ) → nat_cmp a b ≡ Greater → b < a
is_higher a b h = grind (arith, nat_tests)

is_same_place : (a b : ℕ) → nat_cmp a b ≡ Equal → a ≡ b
is_same_place a b h = grind (arith, nat_tests)

-- the entry that is there is replaced
pub set_there : (e : Entry) (xs : List Entry) (i : ℕ) → AreInPlace xs → i < length xs → HoldsAt (λ x. nat_cmp x.place e.place ≡ Equal) xs i →
    set xs i e ≡ set_entry e xs
set_there e [] i r h at = absurd (omega arith)
set_there e (x ∷ xs) zero r h at = sym (same_goes e x xs (is_same_place x.place e.place (at x)))
set_there e (x ∷ xs) (suc i) r h at =
    let below = all_at (λ y. x.place < y.place) xs i e r.0 (omega arith) in
    let same = is_same_place (get_or xs i e).place e.place (at e) in
    ap (λ rest. x ∷ rest) (set_there e xs i r.1 (omega arith) at) ∙ sym (lower_skips e x xs (omega arith))

-- and goes in, where none is
pub set_between : (e : Entry) (xs : List Entry) (i : ℕ) → i ≤ length xs →
    IsPartitionPoint (λ x. nat_cmp x.place e.place ≡ Less) (λ x. nat_cmp x.place e.place ≡ Greater) xs i → insert xs i e ≡ set_entry e xs
set_between e [] zero h p = refl
set_between e [] (suc i) h p = absurd (omega arith)
set_between e (x ∷ xs) zero h p = sym (higher_follows e x xs (is_higher x.place e.place (p.1 0 x (omega arith) (omega arith))))
set_between e (x ∷ xs) (suc i) h p =
    ap (λ rest. x ∷ rest) (set_between e xs i (omega arith)
    (λ n d l k. p.0 (suc n) d (omega arith) (omega arith), λ n d l k. p.1 (suc n) d (omega arith) (omega arith)))
    ∙ sym (lower_skips e x xs (is_lower x.place e.place (p.0 0 x (omega arith) (omega arith))))

index_rises : (slot a b : ℕ) → a < b → ordering_index (nat_cmp a slot) ≤ ordering_index (nat_cmp b slot)
index_rises slot a b h = grind (arith, nat_tests)

pub places_rise : (slot : ℕ) (xs : List Entry) → AreInPlace xs → IsNonDecreasingBy (λ x. ordering_index (nat_cmp x.place slot)) xs
places_rise slot xs = rises_by (λ (x y : Entry). x.place < y.place) (λ x. ordering_index (nat_cmp x.place slot)) xs (λ x y. index_rises slot x.place y.place)

pub above_all : (p q : ℕ) (xs : List Entry) → p ≤ q → AllByRecursion (λ x. q < x.place) xs → AllByRecursion (λ x. p < x.place) xs
above_all p q [] h a = tt
above_all p q (x ∷ xs) h a = let next = a.0 in (omega arith, above_all p q xs h a.1)

module _ (P : Entry → Type 0) where
  all_set_if : (e x : Entry) (xs : List Entry) (b c : Bool) → P e → P x → AllByRecursion P xs → AllByRecursion P (set_entry e xs) →
      AllByRecursion P (if b then e ∷ x ∷ xs else (if c then e ∷ xs else x ∷ set_entry e xs))
  all_set_if e x xs true c h k r more = (h, (k, r))
  all_set_if e x xs false true h k r more = (h, r)
  all_set_if e x xs false false h k r more = (k, more)

  all_set : (e : Entry) (xs : List Entry) → P e → AllByRecursion P xs → AllByRecursion P (set_entry e xs)
  all_set e [] h r = (h, tt)
  all_set e (x ∷ xs) h r = all_set_if e x xs (nat_lt e.place x.place) (nat_eq e.place x.place) h r.0 r.1 (all_set e xs h r.1)

in_place_at : (e x : Entry) (xs : List Entry) → AreInPlace (x ∷ xs) → AreInPlace (set_entry e xs) → (o : Ordering) → nat_cmp e.place x.place ≡ o →
    AreInPlace (set_entry e (x ∷ xs))
in_place_at e x xs r more Less h =
    let lower = is_lower e.place x.place h in
    rw (higher_follows e x xs lower) ((lower, above_all e.place x.place xs (omega arith) r.0), r)
in_place_at e x xs r more Equal h =
    let same = is_same_place e.place x.place h in
    rw (same_goes e x xs (sym same)) (above_all e.place x.place xs (omega arith) r.0, r.1)
in_place_at e x xs r more Greater h =
    let higher = is_higher e.place x.place h in
    rw (lower_skips e x xs higher) (all_set (λ y. x.place < y.place) e xs higher r.0, more)

in_place_set : (e : Entry) (xs : List Entry) → AreInPlace xs → AreInPlace (set_entry e xs)
in_place_set e [] r = (tt, tt)
in_place_set e (x ∷ xs) r = in_place_at e x xs r (in_place_set e xs r.1) (nat_cmp e.place x.place) refl

in_place_all : (es xs : List Entry) → AreInPlace xs → AreInPlace (set_entries es xs)
in_place_all [] xs r = r
in_place_all (e ∷ es) xs r = in_place_all es (set_entry e xs) (in_place_set e xs r)

pub in_place_by : (es xs new : List Entry) → new ≡ set_entries es xs → AreInPlace xs → AreInPlace new
in_place_by es xs new is r = subst AreInPlace (sym is) (in_place_all es xs r)

-- ---- one timer more

set_entries-append : (xs ys entries : List Entry) → set_entries (xs ++ ys) entries ≡ set_entries ys (set_entries xs entries)
set_entries-append [] ys entries = refl
set_entries-append (x ∷ xs) ys entries = set_entries-append xs ys (set_entry x entries)

pub firings_more :
    (tag : LogicalTime) (timers : List Firings) (i : ℕ) (d : Firings) (first before after : List Entry) → i < length timers →
    before ≡ set_entries (entries_at tag (all_firings (take i timers))) first → after ≡ set_entries (entries_at tag (firings_of (get_or timers i d))) before →
    after ≡ set_entries (entries_at tag (all_firings (take (i + 1) timers))) first
firings_more tag timers i d first before after h so_far here =
    let f = get_or timers i d in
    here ∙ ap (set_entries (entries_at tag (firings_of f))) so_far
    ∙ sym (ap (λ ts. set_entries (entries_at tag (all_firings ts)) first) (take_more timers i d h)
    ∙ ap (λ us. set_entries (entries_at tag us) first) (all_firings-push (take i timers) f)
    ∙ ap (λ us. set_entries (map entry_of us) first) (filter-append (λ e. is_same e.tag tag) (all_firings (take i timers)) (firings_of f))
    ∙ ap (λ es. set_entries es first) (map-append entry_of (those_at tag (all_firings (take i timers))) (those_at tag (firings_of f)))
    ∙ set_entries-append (entries_at tag (all_firings (take i timers))) (entries_at tag (firings_of f)) first)

-- ---- those in front and the others

pub then_ok : {A B P Q : Type 0} (r : Result A B) → (P → Q) → OnOk r P → OnOk r Q
then_ok (Ok x) f p = f p
then_ok (Err x) f p = tt

pub entries_of_both : (tag : LogicalTime) (front rest : List (Key × ℤ)) (first : List Entry) →
    set_entries (entries_at tag (held_in rest)) (set_entries (entries_at tag (held_in front)) first) ≡ set_entries (entries_at tag (held_in (front ++ rest))) first
entries_of_both tag front rest first =
    sym (ap (λ us. set_entries (entries_at tag us) first) (map-append held_at front rest)
    ∙ ap (λ us. set_entries (map entry_of us) first) (filter-append (λ e. is_same e.tag tag) (held_in front) (held_in rest))
    ∙ ap (λ es. set_entries es first) (map-append entry_of (those_at tag (held_in front)) (those_at tag (held_in rest)))
    ∙ set_entries-append (entries_at tag (held_in front)) (entries_at tag (held_in rest)) first)

-- ---- past the tag

none_same : (tag : LogicalTime) (u : List PendingEvent) → AllByRecursion (λ e. is_before tag e.tag ≡ true) u → AllByRecursion (λ e. is_same e.tag tag ≡ false) u
none_same tag [] a = tt
none_same tag (e ∷ u) a = (after_not_same e.tag tag a.0, none_same tag u a.1)

none_left : (tag : LogicalTime) (e : Key × ℤ) (es : List (Key × ℤ)) → Ordered (held_in (e ∷ es)) → is_at_most e.0.tag tag ≡ false →
    those_at tag (held_in (e ∷ es)) ≡ []
none_left tag e es r h =
    let first = not_at_most (held_at e).tag tag h in
    filter_none (λ x. is_same x.tag tag) (held_in (e ∷ es)) (none_same tag (held_in (e ∷ es)) (first, all_after (held_at e) (held_in es) tag first r.0))

-- none is at it
pub none_more : (tag : LogicalTime) (all es : List (Key × ℤ)) (e : Key × ℤ) (entries : List Entry) → all ≡ e ∷ es → Ordered (held_in all) →
    is_at_most e.0.tag tag ≡ false → entries ≡ set_entries (entries_at tag (held_in all)) entries
none_more tag all es e entries is r h =
    sym (ap (λ l. set_entries (entries_at tag (held_in l)) entries) is
    ∙ ap (λ us. set_entries (map entry_of us) entries) (none_left tag e es (subst (λ l. Ordered (held_in l)) is r) h))

-- ---- what is present is what look-ups find

value_if : (c : Bool) (e : PendingEvent) (o : Option ℤ) (found : Option Entry) → option_map (λ x. x.value) found ≡ o →
    option_map (λ x. x.value) (cond c (Some (entry_of e)) found) ≡ (if c then Some e.value else o)
value_if true e o found h = refl
value_if false e o found h = h

value_more : (b : Bool) (e : PendingEvent) (us : List PendingEvent) (slot : ℕ) (o : Option ℤ) → value_at (map entry_of us) slot ≡ o →
    value_at (map entry_of (cond b (e ∷ us) us)) slot ≡ (if b && nat_eq e.slot slot then Some e.value else o)
value_more true e us slot o h = value_if (nat_eq e.slot slot) e o (find (λ x. nat_eq x.place slot) (map entry_of us)) h
value_more false e us slot o h = h

pub present_values : (tag : LogicalTime) (u : List PendingEvent) (slot : ℕ) → value_at (present_in u tag) slot ≡ look u tag slot
present_values tag [] slot = refl
present_values tag (e ∷ u) slot = value_more (is_same e.tag tag) e (those_at tag u) slot (look u tag slot) (present_values tag u slot)
