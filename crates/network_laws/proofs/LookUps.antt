-- What is found for a slot at a tag among events that are put one after the other: what was put last counts first.
use Rattle.std.proofs.Common.{◌≡◌, ℕ, Bool, true, false, cond, List, [], ◌∷◌, refl, sym, ap, ◌∙◌, arith, Option, None, Some, ℤ}
use Rattle.std.specs.Prelude.{nat_eq, if◌then◌else◌, ◌&&◌}
use Rattle.std.proofs.lemmas.Bool.{and_parts, eqb-true}
use Rattle.std.proofs.lemmas.Bool.Decides.{nat_tests}
use Rattle.tag.specs.LogicalTime.{LogicalTime, is_before, is_same}
use Rattle.tag.proofs.Order.{same_is_equal}
use Rattle.network.specs.Undone.{PendingEvent, put, put_all, look, drop_up_to, is_held_before, is_for_same}
use Rattle.network_laws.specs.Newest.{or_else}

-- what an event brings to a slot at a tag
abbrev pub found_in : PendingEvent → LogicalTime → ℕ → Option ℤ
found_in e t slot = if is_same e.tag t && nat_eq e.slot slot then Some e.value else None

-- what the last of several events brings there
abbrev pub last_held : List PendingEvent → LogicalTime → ℕ → Option ℤ
last_held [] t slot = None
last_held (e ∷ rest) t slot = or_else (last_held rest t slot) (found_in e t slot)

pub or_nothing : (a : Option ℤ) → or_else a None ≡ a
or_nothing None = refl
or_nothing (Some x) = refl

pub or_apart : (a b c : Option ℤ) → or_else (or_else a b) c ≡ or_else a (or_else b c)
or_apart None b c = refl
or_apart (Some x) b c = refl

found_or : (b : Bool) (v : ℤ) (r : Option ℤ) → (if b then Some v else r) ≡ or_else (if b then Some v else None) r
found_or true v r = refl
found_or false v r = refl

replaced : (b c : Bool) (v w : ℤ) (r : Option ℤ) → b ≡ c → (if b then Some v else r) ≡ or_else (if b then Some v else None) (if c then Some w else r)
replaced true c v w r e = refl
replaced false true v w r e = cc
replaced false false v w r e = refl

passed_over : (b c : Bool) (v w : ℤ) (r : Option ℤ) → (b ≡ true → c ≡ true → ⊥) → (if c then Some w else or_else (if b then Some v else None) r) ≡ or_else (if b then Some v else None) (if c then Some w else r)
passed_over true true v w r h = absurd (h refl refl)
passed_over true false v w r h = refl
passed_over false c v w r h = refl

not_both : (e x : PendingEvent) (t : LogicalTime) (slot : ℕ) → is_for_same e x ≡ false → (is_same e.tag t && nat_eq e.slot slot) ≡ true → (is_same x.tag t && nat_eq x.slot slot) ≡ true → ⊥
not_both e x t slot h k l = grind (arith, nat_tests)

put_found : (e x : PendingEvent) (rest more : List PendingEvent) (t : LogicalTime) (slot : ℕ) (b c : Bool) → is_for_same e x ≡ c → look more t slot ≡ or_else (found_in e t slot) (look rest t slot) → look (if b then e ∷ x ∷ rest else (if c then e ∷ rest else x ∷ more)) t slot ≡ or_else (found_in e t slot) (look (x ∷ rest) t slot)
put_found e x rest more t slot true c h r = found_or (is_same e.tag t && nat_eq e.slot slot) e.value (look (x ∷ rest) t slot)
put_found e x rest more t slot false true h r =
    let p : e.tag ≡ x.tag = same_is_equal e.tag x.tag ((and_parts (is_same e.tag x.tag) (nat_eq e.slot x.slot) h).0) in
    let q : e.slot ≡ x.slot = eqb-true e.slot x.slot ((and_parts (is_same e.tag x.tag) (nat_eq e.slot x.slot) h).1) in
    replaced (is_same e.tag t && nat_eq e.slot slot) (is_same x.tag t && nat_eq x.slot slot) e.value x.value (look rest t slot) (λ y. is_same (p y) t && nat_eq (q y) slot)
put_found e x rest more t slot false false h r =
    ap (λ (o : Option ℤ). if is_same x.tag t && nat_eq x.slot slot then Some x.value else o) r
    ∙ passed_over (is_same e.tag t && nat_eq e.slot slot) (is_same x.tag t && nat_eq x.slot slot) e.value x.value (look rest t slot) (not_both e x t slot h)

-- what was put counts first
pub look_put : (e : PendingEvent) (u : List PendingEvent) (t : LogicalTime) (slot : ℕ) → look (put e u) t slot ≡ or_else (found_in e t slot) (look u t slot)
look_put e [] t slot = found_or (is_same e.tag t && nat_eq e.slot slot) e.value None
look_put e (x ∷ rest) t slot = put_found e x rest (put e rest) t slot (is_held_before e x) (is_for_same e x) refl (look_put e rest t slot)

pub look_put_all : (es u : List PendingEvent) (t : LogicalTime) (slot : ℕ) → look (put_all es u) t slot ≡ or_else (last_held es t slot) (look u t slot)
look_put_all [] u t slot = refl
look_put_all (e ∷ rest) u t slot =
    look_put_all rest (put e u) t slot
    ∙ (ap (or_else (last_held rest t slot)) (look_put e u t slot) ∙ sym (or_apart (last_held rest t slot) (found_in e t slot) (look u t slot)))

dropped_not : (g t s : LogicalTime) (slot other : ℕ) → is_before g s ≡ false → is_before g t ≡ true → (is_same s t && nat_eq other slot) ≡ false
dropped_not g t s slot other h k = grind (arith, nat_tests)

kept_not : (g t s : LogicalTime) (slot other : ℕ) → is_before g s ≡ true → is_before g t ≡ false → (is_same s t && nat_eq other slot) ≡ false
kept_not g t s slot other h k = grind (arith, nat_tests)

drop_step : (g t : LogicalTime) (slot : ℕ) (x : PendingEvent) (rest : List PendingEvent) → is_before g t ≡ false → look (drop_up_to g rest) t slot ≡ None → (b : Bool) → is_before g x.tag ≡ b → look (cond b (x ∷ drop_up_to g rest) (drop_up_to g rest)) t slot ≡ None
drop_step g t slot x rest h r true k = ap (λ (c : Bool). if c then Some x.value else look (drop_up_to g rest) t slot) (kept_not g t x.tag slot x.slot k h) ∙ r
drop_step g t slot x rest h r false k = r

-- what is dropped isn't found
pub look_dropped : (g t : LogicalTime) (slot : ℕ) (u : List PendingEvent) → is_before g t ≡ false → look (drop_up_to g u) t slot ≡ None
look_dropped g t slot [] h = refl
look_dropped g t slot (x ∷ rest) h = drop_step g t slot x rest h (look_dropped g t slot rest h) (is_before g x.tag) refl

keep_step : (g t : LogicalTime) (slot : ℕ) (x : PendingEvent) (rest : List PendingEvent) → is_before g t ≡ true → look (drop_up_to g rest) t slot ≡ look rest t slot → (b : Bool) → is_before g x.tag ≡ b → look (cond b (x ∷ drop_up_to g rest) (drop_up_to g rest)) t slot ≡ look (x ∷ rest) t slot
keep_step g t slot x rest h r true k = ap (λ (o : Option ℤ). if is_same x.tag t && nat_eq x.slot slot then Some x.value else o) r
keep_step g t slot x rest h r false k = r ∙ sym (ap (λ (c : Bool). if c then Some x.value else look rest t slot) (dropped_not g t x.tag slot x.slot k h))

-- what is later is found as before
pub look_later : (g t : LogicalTime) (slot : ℕ) (u : List PendingEvent) → is_before g t ≡ true → look (drop_up_to g u) t slot ≡ look u t slot
look_later g t slot [] h = refl
look_later g t slot (x ∷ rest) h = keep_step g t slot x rest h (look_later g t slot rest h) (is_before g x.tag) refl
