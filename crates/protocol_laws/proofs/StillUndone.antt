-- What a federate has still to run: a list that rises, all of it from a place on and up to stop.
use Rattle.std.proofs.Common.{◌≡◌, ℕ, ◌+◌, ◌<◌, ◌≤◌, Bool, true, false, cond, List, [], ◌∷◌, refl, sym, ap, subst, arith, min, max}
use Rattle.std.specs.Prelude.{if◌then◌else◌, ◌||◌, ◌&&◌, nat_eq, nat_lt}
use Rattle.tag.specs.LogicalTime.{LogicalTime, IsLogicalTime, is_before, is_same, place}
use Rattle.tag.proofs.Order.{before_places, not_before_places, same_is_equal, top}
use Rattle.network.specs.Undone.{PendingEvent, is_held_before, is_for_same, put, put_all, drop_up_to}
use Rattle.protocol_laws.proofs.Tests.{both_left}

abbrev pub IsUndone : LogicalTime → ℕ → List PendingEvent → Type 0
IsUndone stop low [] = Unit {0}
IsUndone stop low (x ∷ rest) = IsLogicalTime x.tag × (low ≤ place x.tag) × (place x.tag ≤ place stop) × IsUndone stop (place x.tag) rest

-- each of these is in range, from a place on and up to stop
abbrev pub AreHeld : LogicalTime → ℕ → List PendingEvent → Type 0
AreHeld stop low [] = Unit {0}
AreHeld stop low (x ∷ rest) = IsLogicalTime x.tag × (low ≤ place x.tag) × (place x.tag ≤ place stop) × AreHeld stop low rest

-- the place of the least tag
abbrev pub first_place : List PendingEvent → ℕ
first_place [] = top
first_place (x ∷ rest) = place x.tag

pub first_at_least : (stop : LogicalTime) (low : ℕ) (u : List PendingEvent) → low ≤ top → IsUndone stop low u → low ≤ first_place u
first_at_least stop low [] l h = l
first_at_least stop low (x ∷ rest) l h = h.1

pub undone_from_lower : (stop : LogicalTime) (low lower : ℕ) (u : List PendingEvent) → lower ≤ low → IsUndone stop low u → IsUndone stop lower u
undone_from_lower stop low lower [] l h = tt
undone_from_lower stop low lower (x ∷ rest) l h = let a = h.1 in (h.0, omega arith, h.2, h.3)

either_first : (a b c : Bool) → (a || (b && c)) ≡ false → a ≡ false
either_first true b c h = h
either_first false b c h = refl

either_one : (g h : LogicalTime) (a b c : Bool) → (a ≡ true → place g < place h) → (b ≡ true → g ≡ h) → (a || (b && c)) ≡ true → place g ≤ place h
either_one g h true b c t s e = let l = t refl in omega arith
either_one g h false true c t s e = let l = ap place (s refl) in omega arith
either_one g h false false c t s e = cc

put_cases : (stop : LogicalTime) (low : ℕ) (e x : PendingEvent) (rest more : List PendingEvent) (b c : Bool) → IsLogicalTime e.tag → low ≤ place e.tag → place e.tag ≤ place stop → IsUndone stop low (x ∷ rest) → (b ≡ true → place e.tag ≤ place x.tag) → (b ≡ false → place x.tag ≤ place e.tag) → (c ≡ true → e.tag ≡ x.tag) → (place x.tag ≤ place e.tag → IsUndone stop (place x.tag) more) → IsUndone stop low (if b then e ∷ x ∷ rest else (if c then e ∷ rest else x ∷ more))
put_cases stop low e x rest more true c p l s h t f q r = (p, l, s, (h.0, t refl, h.2, h.3))
put_cases stop low e x rest more false true p l s h t f q r =
    let P : LogicalTime → Type 0 = λ g. IsUndone stop (place g) rest in
    (p, l, s, subst P (sym (q refl)) h.3)
put_cases stop low e x rest more false false p l s h t f q r = (h.0, h.1, h.2, r (f refl))

pub put_is_undone : (stop : LogicalTime) (low : ℕ) (e : PendingEvent) (u : List PendingEvent) → IsLogicalTime e.tag → low ≤ place e.tag → place e.tag ≤ place stop → IsUndone stop low u → IsUndone stop low (put e u)
put_is_undone stop low e [] p l s h = (p, l, s, tt)
put_is_undone stop low e (x ∷ rest) p l s h =
    put_cases stop low e x rest (put e rest) (is_held_before e x) (is_for_same e x) p l s h
    (either_one e.tag x.tag (is_before e.tag x.tag) (is_same e.tag x.tag) (nat_lt e.slot x.slot) (before_places e.tag x.tag p h.0) (same_is_equal e.tag x.tag))
    (λ b. not_before_places e.tag x.tag p h.0 (either_first (is_before e.tag x.tag) (is_same e.tag x.tag) (nat_lt e.slot x.slot) b))
    (λ b. same_is_equal e.tag x.tag (both_left (is_same e.tag x.tag) (nat_eq e.slot x.slot) b))
    (λ m. put_is_undone stop (place x.tag) e rest p m s h.3)

first_cases : (e x : PendingEvent) (rest more : List PendingEvent) (b c : Bool) → min (place x.tag) (place e.tag) ≤ first_place (if b then e ∷ x ∷ rest else (if c then e ∷ rest else x ∷ more))
first_cases e x rest more true c = omega arith
first_cases e x rest more false true = omega arith
first_cases e x rest more false false = omega arith

pub first_after_put : (e : PendingEvent) (u : List PendingEvent) → min (first_place u) (place e.tag) ≤ first_place (put e u)
first_after_put e [] = omega arith
first_after_put e (x ∷ rest) = first_cases e x rest (put e rest) (is_held_before e x) (is_for_same e x)

pub put_all_is_undone : (stop : LogicalTime) (low : ℕ) (es u : List PendingEvent) → AreHeld stop low es → IsUndone stop low u → IsUndone stop low (put_all es u)
put_all_is_undone stop low [] u a h = h
put_all_is_undone stop low (e ∷ rest) u a h = put_all_is_undone stop low rest (put e u) a.3 (put_is_undone stop low e u a.0 a.1 a.2 h)

drop_cases : (stop : LogicalTime) (low m : ℕ) (g : LogicalTime) (x : PendingEvent) (kept : List PendingEvent) (b : Bool) → IsLogicalTime x.tag → place x.tag ≤ place stop → low ≤ place x.tag → m ≤ max low (place g + 1) → (b ≡ true → place g < place x.tag) → (b ≡ false → place x.tag ≤ place g) → ((k : ℕ) → k ≤ max (place x.tag) (place g + 1) → IsUndone stop k kept) → IsUndone stop m (cond b (x ∷ kept) kept)
drop_cases stop low m g x kept true p s l w t f r = let a = t refl in (p, omega arith, s, r (place x.tag) (omega arith))
drop_cases stop low m g x kept false p s l w t f r = let a = f refl in r m (omega arith)

pub drop_is_undone : (stop : LogicalTime) (low m : ℕ) (g : LogicalTime) (u : List PendingEvent) → IsLogicalTime g → IsUndone stop low u → m ≤ max low (place g + 1) → IsUndone stop m (drop_up_to g u)
drop_is_undone stop low m g [] p h w = tt
drop_is_undone stop low m g (x ∷ rest) p h w =
    drop_cases stop low m g x (drop_up_to g rest) (is_before g x.tag) h.0 h.2 h.1 w (before_places g x.tag p h.0) (not_before_places g x.tag p h.0)
    (λ k l. drop_is_undone stop (place x.tag) k g rest p h.3 l)
