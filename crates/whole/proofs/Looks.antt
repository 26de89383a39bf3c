-- What is found on a list of what is undone, and its least tag.
use Rattle.std.proofs.Common.{◌≡◌, ℕ, Bool, true, false, IsTrue, List, [], ◌∷◌, nat_eq, nat_lt, ◌||◌, ◌&&◌, ℤ, Option, None, Some, refl, sym, ap, ◌∙◌, arith}
use Rattle.std.specs.Prelude.{if◌then◌else◌}
use Rattle.std.specs.List.{AllByRecursion}
use Rattle.std.proofs.lemmas.Bool.{and_parts, or_left, and_from, false_from_ne_true, eq-eqb}
use Rattle.std.proofs.lemmas.Bool.Decides.{nat_tests}
use Rattle.tag.specs.LogicalTime.{LogicalTime, forever, is_before, is_same}
use Rattle.tag.proofs.Order.{same_is_equal, same_itself, before_transitive, before_irreflexive, before_forever}
use Rattle.network.specs.Undone.{PendingEvent, look, is_held_before, Rises}
use Rattle.network_laws.proofs.Lists.{each_more}
use Rattle.reactor_agenda.specs.Agenda.{Agenda, IsInTime, IsAgenda, least_in}

pub none_some : {X : Type 0} (v : X) → None ≡ Some v → ⊥
none_some v e = cc

-- an event is found on the list that begins with it
pub first_found : (x : PendingEvent) (rest : List PendingEvent) → look (x ∷ rest) x.tag x.slot ≡ Some x.value
first_found x rest =
    let here : (is_same x.tag x.tag && nat_eq x.slot x.slot) ≡ true = and_from (is_same x.tag x.tag) (nat_eq x.slot x.slot) (same_itself x.tag) (eq-eqb x.slot x.slot refl) in
    ap (λ (b : Bool). if b then Some x.value else look rest x.tag x.slot) here

-- every event's slot and tag have something
abbrev IsSome : Option ℤ → Type 0
IsSome o = (v : ℤ) × (o ≡ Some v)

found_if : (b : Bool) (v : ℤ) (o : Option ℤ) → IsSome o → IsSome (if b then Some v else o)
found_if true v o h = (v, refl)
found_if false v o h = h

pub all_found : (u : List PendingEvent) → AllByRecursion (λ e. IsSome (look u e.tag e.slot)) u
all_found [] = tt
all_found (x ∷ rest) = (
  (x.value, first_found x rest),
  each_more (λ e. IsSome (look rest e.tag e.slot)) (λ e. IsSome (look (x ∷ rest) e.tag e.slot))
      (λ e h. found_if (is_same x.tag e.tag && nat_eq x.slot e.slot) x.value (look rest e.tag e.slot) h) rest (all_found rest),
)

not_sooner : (x y : PendingEvent) → IsTrue (is_held_before x y) → is_before y.tag x.tag ≡ false
not_sooner x y h = grind (arith, nat_tests)

-- what is found in a list without earlier events isn't earlier
pub found_later : (g : LogicalTime) (u : List PendingEvent) → AllByRecursion (λ e. is_before e.tag g ≡ false) u → (t : LogicalTime) (slot : ℕ) (v : ℤ) → look u t slot ≡ Some v → is_before t g ≡ false
found_later g [] a t slot v h = absurd (none_some v h)
found_later g (x ∷ rest) a t slot v h = by_test (is_same x.tag t && nat_eq x.slot slot) refl (found_later g rest a.1 t slot v) h
  where
    by_test : (b : Bool) → (is_same x.tag t && nat_eq x.slot slot) ≡ b → (look rest t slot ≡ Some v → is_before t g ≡ false) → (if b then Some x.value else look rest t slot) ≡ Some v → is_before t g ≡ false
    by_test true e more k = ap (λ s. is_before s g) (sym (same_is_equal x.tag t (and_parts (is_same x.tag t) (nat_eq x.slot slot) e).0)) ∙ a.0
    by_test false e more k = more k

-- nothing is found before the least tag
pub found_after_least : (u : List PendingEvent) → Rises u → (t : LogicalTime) (slot : ℕ) (v : ℤ) → look u t slot ≡ Some v → is_before t (least_in u) ≡ false
found_after_least [] r t slot v h = absurd (none_some v h)
found_after_least (x ∷ rest) r t slot v h =
    found_later x.tag (x ∷ rest) (before_irreflexive x.tag, each_more (λ e. IsTrue (is_held_before x e)) (λ e. is_before e.tag x.tag ≡ false) (λ e k. not_sooner x e k) rest r.0) t slot v h

-- where the least tag isn't before FOREVER, nothing is undone
pub none_before_forever : (a : Agenda) → IsAgenda a → is_before (least_in a.undone) forever ≡ false → (t : LogicalTime) (slot : ℕ) → look a.undone t slot ≡ None
none_before_forever a k h t slot = by_list a.undone k.in_time h
  where
    by_list : (u : List PendingEvent) → AllByRecursion (IsInTime a.stop) u → is_before (least_in u) forever ≡ false → look u t slot ≡ None
    by_list [] w h = refl
    by_list (x ∷ rest) w h = let yes = before_forever x.tag w.0.finite in absurd cc

-- where it isn't FOREVER, something is found there
pub least_found : (u : List PendingEvent) → (least_in u ≡ forever → ⊥) → (slot : ℕ) × (v : ℤ) × (look u (least_in u) slot ≡ Some v)
least_found [] h = absurd (h refl)
least_found (x ∷ rest) h = (x.slot, x.value, first_found x rest)

-- not earlier by rank either
pub not_first : (least earlier tag : LogicalTime) (r s : ℕ) → is_before earlier least ≡ false → (is_before least tag || (is_same least tag && nat_lt r s)) ≡ false →
    (is_before earlier tag || (is_same earlier tag && nat_lt r s)) ≡ false
not_first least earlier tag r s h k =
    false_from_ne_true (is_before earlier tag || (is_same earlier tag && nat_lt r s)) (λ held. (let so = sooner least earlier tag r s h held in cc))
  where
    not_before_is : (g h : LogicalTime) → is_before h g ≡ false → (b : Bool) → is_before g h ≡ b → (b || is_same g h) ≡ true
    not_before_is g h n true e = refl
    not_before_is g h n false e = grind (arith, nat_tests)

    or_cases : (b c : Bool) → (b || c) ≡ true → (P : Type 0) → (b ≡ true → P) → (c ≡ true → P) → P
    or_cases true c e P f g = f refl
    or_cases false c e P f g = g e

    sooner : (least earlier tag : LogicalTime) (r s : ℕ) → is_before earlier least ≡ false → (is_before earlier tag || (is_same earlier tag && nat_lt r s)) ≡ true → (is_before least tag || (is_same least tag && nat_lt r s)) ≡ true
    sooner least earlier tag r s h held =
        or_cases (is_before least earlier) (is_same least earlier) (not_before_is least earlier h (is_before least earlier) refl) _
        (λ low. or_left (is_before least tag) (is_same least tag && nat_lt r s)
        (or_cases (is_before earlier tag) (is_same earlier tag && nat_lt r s) held _
        (λ q. before_transitive least earlier tag low q)
        (λ q. ap (is_before least) (sym (same_is_equal earlier tag (and_parts (is_same earlier tag) (nat_lt r s) q).0)) ∙ low)))
        (λ same. ap (λ g. is_before g tag || (is_same g tag && nat_lt r s)) (same_is_equal least earlier same) ∙ held)
