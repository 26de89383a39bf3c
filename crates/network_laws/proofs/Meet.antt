-- Two histories that are one up to each tag of some kind are one back to the newest tag of that kind.
use Rattle.std.proofs.Common.{◌≡◌, List, [], ◌∷◌, Bool, true, false, cond, IsTrue, refl, sym, ap, ◌∙◌, ◌⊎◌, inl, inr, arith}
use Rattle.std.specs.List.{AllByRecursion}
use Rattle.std.proofs.lemmas.Bool.Decides.{nat_tests}
use Rattle.tag.specs.LogicalTime.{LogicalTime, is_before, is_at_most, is_same}
use Rattle.tag.proofs.Order.{at_most_reflexive, one_of_three, before_transitive, before_irreflexive, before_asymmetric, before_at_most, before_not_same, after_not_at_most, after_not_same, same_itself}
use Rattle.network.specs.Items.{AllPairsByRecursion}
use Rattle.network.proofs.Items.{each_pair, from_each_pair}
use Rattle.network_laws.specs.History.{Turn, HasRisingTags, back_to, up_to, has_turn_at}
use Rattle.network_laws.proofs.Lists.{Among, each_more}

-- the newest turn of a history is not later than a tag
abbrev pub IsWithin : LogicalTime → List Turn → Type 0
IsWithin s [] = Unit {0}
IsWithin s (x ∷ xs) = IsTrue (is_at_most x.tag s)

back_step : (R : LogicalTime → Bool) (s : LogicalTime) (z : Turn) (zs : List Turn) → (b r : Bool) → is_at_most z.tag s ≡ b → R z.tag ≡ r → (IsWithin s (back_to R zs) → back_to R (up_to s zs) ≡ back_to R zs) → IsWithin s (cond r (z ∷ zs) (back_to R zs)) → back_to R (cond b (z ∷ zs) (up_to s zs)) ≡ cond r (z ∷ zs) (back_to R zs)
back_step R s z zs true r e f h w = ap (λ (x : Bool). cond x (z ∷ zs) (back_to R zs)) f
back_step R s z zs false true e f h w = cc
back_step R s z zs false false e f h w = h w

pub back_within : (R : LogicalTime → Bool) (s : LogicalTime) (h : List Turn) → IsWithin s (back_to R h) → back_to R (up_to s h) ≡ back_to R h
back_within R s [] w = refl
back_within R s (z ∷ zs) w = back_step R s z zs (is_at_most z.tag s) (R z.tag) refl refl (back_within R s zs) w

-- the newest turn passes
abbrev BackIs : (LogicalTime → Bool) → (LogicalTime → Type 0) → List Turn → Type 0
BackIs R P [] = Unit {0}
BackIs R P (x ∷ xs) = (R x.tag ≡ true) × P x.tag

back_is_step : (R : LogicalTime → Bool) (P : LogicalTime → Type 0) (x : Turn) (xs : List Turn) (r : Bool) → R x.tag ≡ r → P x.tag → BackIs R P (back_to R xs) → BackIs R P (cond r (x ∷ xs) (back_to R xs))
back_is_step R P x xs true e p h = (e, p)
back_is_step R P x xs false e p h = h

back_is : (R : LogicalTime → Bool) (P : LogicalTime → Type 0) (h : List Turn) → AllByRecursion (λ turn. P turn.tag) h → BackIs R P (back_to R h)
back_is R P [] a = tt
back_is R P (x ∷ xs) a = back_is_step R P x xs (R x.tag) refl a.0 (back_is R P xs a.1)

at_most_total : (g h : LogicalTime) → IsTrue (is_at_most g h) ⊎ IsTrue (is_at_most h g)
at_most_total g h = grind (arith, nat_tests)

meet_at : (R : LogicalTime → Bool) (s : LogicalTime) (h k D E : List Turn) → back_to R h ≡ D → back_to R k ≡ E → IsWithin s D → IsWithin s E → up_to s h ≡ up_to s k → D ≡ E
meet_at R s h k D E d e v w same =
    let left : back_to R (up_to s h) ≡ back_to R h = back_within R s h (rw d v) in
    let right : back_to R (up_to s k) ≡ back_to R k = back_within R s k (rw e w) in
    sym d ∙ (sym left ∙ (ap (back_to R) same ∙ (right ∙ e)))

meet_step : (R : LogicalTime → Bool) (P : LogicalTime → Type 0) (h k D E : List Turn) → back_to R h ≡ D → back_to R k ≡ E → BackIs R P D → BackIs R P E → ((s : LogicalTime) → R s ≡ true → P s → up_to s h ≡ up_to s k) → D ≡ E
meet_step R P h k [] [] d e v w same = refl
meet_step R P h k [] (y ∷ ys) d e v w same = meet_at R y.tag h k [] (y ∷ ys) d e tt (at_most_reflexive y.tag) (same y.tag w.0 w.1)
meet_step R P h k (x ∷ xs) [] d e v w same = meet_at R x.tag h k (x ∷ xs) [] d e (at_most_reflexive x.tag) tt (same x.tag v.0 v.1)
meet_step R P h k (x ∷ xs) (y ∷ ys) d e v w same = elim (at_most_total x.tag y.tag) [
  | inl l ↦ meet_at R y.tag h k (x ∷ xs) (y ∷ ys) d e l (at_most_reflexive y.tag) (same y.tag w.0 w.1)
  | inr l ↦ meet_at R x.tag h k (x ∷ xs) (y ∷ ys) d e (at_most_reflexive x.tag) l (same x.tag v.0 v.1)
]

pub meet : (R : LogicalTime → Bool) (P : LogicalTime → Type 0) (h k : List Turn) → AllByRecursion (λ turn. P turn.tag) h → AllByRecursion (λ turn. P turn.tag) k → ((s : LogicalTime) → R s ≡ true → P s → up_to s h ≡ up_to s k) → back_to R h ≡ back_to R k
meet R P h k a b same = meet_step R P h k (back_to R h) (back_to R k) refl refl (back_is R P h a) (back_is R P k b) same

-- a history whose tags rise, newest first
abbrev pub IsRising : List Turn → Type 0
IsRising h = AllPairsByRecursion (λ later earlier. IsTrue (is_before earlier.tag later.tag)) h

pub rising_from : (h : List Turn) → HasRisingTags h → IsRising h
rising_from h apart = each_pair (λ later earlier. IsTrue (is_before earlier.tag later.tag)) h apart

pub rising_tags : (h : List Turn) → IsRising h → HasRisingTags h
rising_tags h rising = from_each_pair (λ later earlier. IsTrue (is_before earlier.tag later.tag)) h rising

-- a history up to a tag is what is before the tag, and the turn at the tag, if there is one
pub record WithTurn (t : LogicalTime) (h : List Turn) : Type 0 where
  pub turn : Turn
  pub at : turn.tag ≡ t
  pub among : Among turn h
  pub upto : up_to t h ≡ turn ∷ back_to (λ s. is_before s t) h

pub record WithoutTurn (t : LogicalTime) (h : List Turn) : Type 0 where
  pub none : has_turn_at t h ≡ false
  pub upto : up_to t h ≡ back_to (λ s. is_before s t) h

all_before : (t : LogicalTime) (xs : List Turn) → AllByRecursion (λ y. IsTrue (is_before y.tag t)) xs → back_to (λ s. is_before s t) xs ≡ xs
all_before t [] a = refl
all_before t (x ∷ xs) a = rw a.0 refl

none_at : (t : LogicalTime) (xs : List Turn) → AllByRecursion (λ y. IsTrue (is_before y.tag t)) xs → has_turn_at t xs ≡ false
none_at t [] a = refl
none_at t (x ∷ xs) a =
    let apart : is_same x.tag t ≡ false = before_not_same x.tag t a.0 in
    rw apart (none_at t xs a.1)

-- how a tag stands to another, with all tests
pub data Stands (g t : LogicalTime) : Type 0 where
  earlier : is_before g t ≡ true → is_at_most g t ≡ true → is_same g t ≡ false → Stands g t
  same : g ≡ t → is_before g t ≡ false → is_at_most g t ≡ true → is_same g t ≡ true → Stands g t
  later : is_before g t ≡ false → is_at_most g t ≡ false → is_same g t ≡ false → Stands g t

stands : (g t : LogicalTime) → Stands g t
stands g t = elim (one_of_three g t) [
  | inl p ↦ earlier p (before_at_most g t p) (before_not_same g t p)
  | inr q ↦ elim q [ inl e ↦ same e (rw e (before_irreflexive t)) (rw e (at_most_reflexive t)) (rw e (same_itself t)) | inr p ↦ later (before_asymmetric g t p) (after_not_at_most g t p) (after_not_same g t p) ]
]

split_step : (t : LogicalTime) (z : Turn) (zs : List Turn) → AllByRecursion (λ y. IsTrue (is_before y.tag z.tag)) zs → Stands z.tag t → WithTurn t zs ⊎ WithoutTurn t zs → WithTurn t (z ∷ zs) ⊎ WithoutTurn t (z ∷ zs)
split_step t z zs r (earlier b m s) h =
    let below : AllByRecursion (λ y. IsTrue (is_before y.tag t)) zs = each_more (λ y. IsTrue (is_before y.tag z.tag)) (λ y. IsTrue (is_before y.tag t)) (λ y q. before_transitive y.tag z.tag t q b) zs r in
    inr (record { none = rw s (none_at t zs below); upto = rw (m, b) refl })
split_step t z zs r (same e b m s) h =
    let below : AllByRecursion (λ y. IsTrue (is_before y.tag t)) zs = rw e at r in
    inl (record { turn = z; at = e; among = inl refl; upto = rw (m, b) (ap (λ (l : List Turn). z ∷ l) (sym (all_before t zs below))) })
split_step t z zs r (later b m s) h = elim h [
  | inl w ↦ inl (record { turn = w.turn; at = w.at; among = inr w.among; upto = rw (m, b) w.upto })
  | inr w ↦ inr (record { none = rw s w.none; upto = rw (m, b) w.upto })
]

pub split : (t : LogicalTime) (h : List Turn) → IsRising h → WithTurn t h ⊎ WithoutTurn t h
split t [] r = inr (record { none = refl; upto = refl })
split t (z ∷ zs) r = split_step t z zs r.0 (stands z.tag t) (split t zs r.1)
