-- What is present at a tag, by slot, is the list of what look-ups find at each slot.
use Rattle.std.proofs.Common.{◌≡◌, ℕ, zero, suc, ◌+◌, ◌<◌, ◌≤◌, ℤ, Bool, true, false, cond, List, [], ◌∷◌, ◌++◌, refl, sym, ap, ◌∙◌, arith, Less, map, Option, None, Some}
use Rattle.std.specs.Prelude.{nat_eq, find}
use Rattle.std.specs.List.{AllByRecursion}
use Rattle.std.specs.Option.{option_map}
use Rattle.std.proofs.lemmas.Bool.Decides.{nat_tests}
use Rattle.tag.specs.LogicalTime.{LogicalTime, is_same}
use Rattle.network.specs.Event.{Entry, entry_at, listed_from, listed, value_at}
use Rattle.network.specs.Undone.{PendingEvent, look, Rises}
use Rattle.reactor_agenda.specs.Agenda.{present_in}
use Rattle.reactor_agenda.specs.Present.{entry_of, AreInPlace}
use Rattle.reactor_agenda.proofs.Order.{held_cmp}
use Rattle.reactor_agenda.proofs.Putting.{Above, Ordered, ordered}
use Rattle.reactor_agenda.proofs.Fired.{those_at}
use Rattle.reactor_agenda.proofs.Writing.{above_all, entries_at, present_values}

-- all places are from the first on, and below the end
abbrev AreWithin : ℕ → ℕ → List Entry → Type 0
AreWithin first end es = AllByRecursion (λ x. (first ≤ x.place) × (x.place < end)) es

found_here : (e : Entry) (es : List Entry) (p : ℕ) → nat_eq e.place p ≡ true → value_at (e ∷ es) p ≡ Some e.value
found_here e es p h = ap (λ b. option_map (λ x. x.value) (cond b (Some e) (find (λ x. nat_eq x.place p) es))) h

found_later : (e : Entry) (es : List Entry) (p : ℕ) → nat_eq e.place p ≡ false → value_at (e ∷ es) p ≡ value_at es p
found_later e es p h = ap (λ b. option_map (λ x. x.value) (cond b (Some e) (find (λ x. nat_eq x.place p) es))) h

not_found : (p : ℕ) (es : List Entry) → AllByRecursion (λ x. p < x.place) es → value_at es p ≡ None
not_found p [] a = refl
not_found p (e ∷ es) a =
    let above = a.0 in
    let other : nat_eq e.place p ≡ false = grind (arith, nat_tests) in
    found_later e es p other ∙ not_found p es a.1

within_next : (first count : ℕ) (e : Entry) (es : List Entry) → first ≤ e.place → AllByRecursion (λ x. e.place < x.place) es →
    AreWithin first (first + suc count) es → AreWithin (first + 1) (first + 1 + count) es
within_next first count e [] h a w = tt
within_next first count e (x ∷ es) h a w = let low = a.0 in let high = w.0.1 in ((omega arith, omega arith), within_next first count e es h a.1 w.1)

same_listing : (count first : ℕ) (f g : ℕ → Option ℤ) → ((p : ℕ) → first ≤ p → f p ≡ g p) → listed_from first count f ≡ listed_from first count g
same_listing zero first f g h = refl
same_listing (suc count) first f g h =
    ap (λ v. entry_at first v ++ listed_from (first + 1) count f) (h first (omega arith))
    ∙ ap (λ es. entry_at first (g first) ++ es) (same_listing count (first + 1) f g (λ p low. h p (omega arith)))

nothing_listed : (count first : ℕ) → listed_from first count (value_at []) ≡ []
nothing_listed zero first = refl
nothing_listed (suc count) first = nothing_listed count (first + 1)

list_here : (count first : ℕ) (e : Entry) (es : List Entry) → AllByRecursion (λ x. e.place < x.place) es → e.place ≡ first →
    es ≡ listed_from (first + 1) count (value_at es) → e ∷ es ≡ listed_from first (suc count) (value_at (e ∷ es))
list_here count first e es a at more =
    let same : (p : ℕ) → first + 1 ≤ p → value_at es p ≡ value_at (e ∷ es) p =
    λ p low. let other : nat_eq e.place p ≡ false = grind (arith, nat_tests) in sym (found_later e es p other) in
    let here : nat_eq e.place first ≡ true = grind (arith, nat_tests) in
    ap (λ p. record { place = p; value = e.value } ∷ es) at
    ∙ ap (λ rest. record { place = first; value = e.value } ∷ rest) (more ∙ same_listing count (first + 1) (value_at es) (value_at (e ∷ es)) same)
    ∙ ap (λ v. entry_at first v ++ listed_from (first + 1) count (value_at (e ∷ es))) (sym (found_here e es first here))

list_later : (count first : ℕ) (e : Entry) (es : List Entry) → AllByRecursion (λ x. e.place < x.place) es → first < e.place →
    e ∷ es ≡ listed_from (first + 1) count (value_at (e ∷ es)) → e ∷ es ≡ listed_from first (suc count) (value_at (e ∷ es))
list_later count first e es a h more =
    more ∙ ap (λ v. entry_at first v ++ listed_from (first + 1) count (value_at (e ∷ es)))
    (sym (not_found first (e ∷ es) (h, above_all first e.place es (omega arith) a)))

list_by : (count first : ℕ) (e : Entry) (es : List Entry) → AllByRecursion (λ x. e.place < x.place) es → first ≤ e.place → e.place < first + suc count →
    es ≡ listed_from (first + 1) count (value_at es) →
    ((first + 1 ≤ e.place) × (e.place < first + 1 + count) → e ∷ es ≡ listed_from (first + 1) count (value_at (e ∷ es))) → (b : Bool) →
    nat_eq e.place first ≡ b → e ∷ es ≡ listed_from first (suc count) (value_at (e ∷ es))
list_by count first e es a low high here later true h = list_here count first e es a (grind (arith, nat_tests)) here
list_by count first e es a low high here later false h =
    let above : first < e.place = grind (arith, nat_tests) in list_later count first e es a above (later (omega arith, omega arith))

lists : (count first : ℕ) (es : List Entry) → AreInPlace es → AreWithin first (first + count) es → es ≡ listed_from first count (value_at es)
lists zero first [] c w = refl
lists zero first (e ∷ es) c w = let low = w.0.0 in let high = w.0.1 in absurd (omega arith)
lists (suc count) first [] c w = sym (nothing_listed (suc count) first)
lists (suc count) first (e ∷ es) c w =
    let low : first ≤ e.place = w.0.0 in
    let rest = within_next first count e es low c.0 w.1 in
    list_by count first e es c.0 low w.0.1 (lists count (first + 1) es c.1 rest) (λ in_range. lists count (first + 1) (e ∷ es) c (in_range, rest))
    (nat_eq e.place first) refl

-- ---- what is present climbs, since what is undone rises

lower_slot : (a b : PendingEvent) (tag : LogicalTime) → held_cmp a b ≡ Less → is_same a.tag tag ≡ true → is_same b.tag tag ≡ true → a.slot < b.slot
lower_slot a b tag h k l = grind (arith, nat_tests)

module _ (tag : LogicalTime) where
  lower_if : (e x : PendingEvent) (us : List PendingEvent) (b : Bool) → held_cmp e x ≡ Less → is_same e.tag tag ≡ true → is_same x.tag tag ≡ b →
      AllByRecursion (λ y. e.slot < y.place) (map entry_of us) → AllByRecursion (λ y. e.slot < y.place) (map entry_of (cond b (x ∷ us) us))
  lower_if e x us true h k l more = (lower_slot e x tag h k l, more)
  lower_if e x us false h k l more = more

  lower_all : (e : PendingEvent) (u : List PendingEvent) → Above e u → is_same e.tag tag ≡ true → AllByRecursion (λ y. e.slot < y.place) (entries_at tag u)
  lower_all e [] a k = tt
  lower_all e (x ∷ u) a k = lower_if e x (those_at tag u) (is_same x.tag tag) a.0 k refl (lower_all e u a.1 k)

  climbing_if : (e : PendingEvent) (u : List PendingEvent) (b : Bool) → Above e u → is_same e.tag tag ≡ b → AreInPlace (entries_at tag u) →
      AreInPlace (map entry_of (cond b (e ∷ those_at tag u) (those_at tag u)))
  climbing_if e u true a k more = (lower_all e u a k, more)
  climbing_if e u false a k more = more

  climbing : (u : List PendingEvent) → Ordered u → AreInPlace (entries_at tag u)
  climbing [] r = tt
  climbing (e ∷ u) r = climbing_if e u (is_same e.tag tag) r.0 refl (climbing u r.1)

  within_if : (count : ℕ) (e : PendingEvent) (us : List PendingEvent) (b : Bool) → e.slot < count → AreWithin 0 (0 + count) (map entry_of us) →
      AreWithin 0 (0 + count) (map entry_of (cond b (e ∷ us) us))
  within_if count e us true h more = ((omega arith, omega arith), more)
  within_if count e us false h more = more

  within : (count : ℕ) (u : List PendingEvent) → AllByRecursion (λ e. e.slot < count) u → AreWithin 0 (0 + count) (entries_at tag u)
  within count [] a = tt
  within count (e ∷ u) a = within_if count e (those_at tag u) (is_same e.tag tag) a.0 (within count u a.1)

  pub present_listed : (u : List PendingEvent) (count : ℕ) → Rises u → AllByRecursion (λ e. e.slot < count) u → present_in u tag ≡ listed count (look u tag)
  present_listed u count r a =
      lists count 0 (present_in u tag) (climbing u (ordered u r)) (within count u a)
      ∙ same_listing count 0 (value_at (present_in u tag)) (look u tag) (λ p low. present_values tag u p)
