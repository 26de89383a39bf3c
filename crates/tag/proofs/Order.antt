-- The order of tags: what its tests say of the numbers, and of the places.
use Rattle.std.proofs.Common.{◌≡◌, ℕ, ◌^◌, ◌<◌, ◌≤◌, ◌⊎◌, Bool, true, false, IsTrue, ◌↔◌, refl, ap, arith}
use Rattle.std.specs.Prelude.{if◌then◌else◌}
use Rattle.std.proofs.lemmas.Bool.Decides.{nat_tests}
use Rattle.tag.specs.LogicalTime.{LogicalTime, IsLogicalTime, IsFinite, is_before, is_at_most, is_same, place, origin, forever, lesser, predecessor_of}

pub before_irreflexive : (g : LogicalTime) → is_before g g ≡ false
before_irreflexive g = grind (arith, nat_tests)

pub before_transitive : (g h k : LogicalTime) → IsTrue (is_before g h) → IsTrue (is_before h k) → IsTrue (is_before g k)
before_transitive g h k p q = grind (arith, nat_tests)

pub one_of_three : (g h : LogicalTime) → IsTrue (is_before g h) ⊎ ((g ≡ h) ⊎ IsTrue (is_before h g))
one_of_three g h = grind (arith, nat_tests)

pub at_most_by_before : (g h : LogicalTime) → IsTrue (is_at_most g h) ↔ (is_before h g ≡ false)
at_most_by_before g h = grind (arith, nat_tests)

pub at_most_reflexive : (g : LogicalTime) → IsTrue (is_at_most g g)
at_most_reflexive g = grind (arith, nat_tests)

pub at_most_transitive : (g h k : LogicalTime) → IsTrue (is_at_most g h) → IsTrue (is_at_most h k) → IsTrue (is_at_most g k)
at_most_transitive g h k p q = grind (arith, nat_tests)

pub same_is_equal : (g h : LogicalTime) → IsTrue (is_same g h) → g ≡ h
same_is_equal g h p = grind (arith, nat_tests)

pub same_itself : (g : LogicalTime) → IsTrue (is_same g g)
same_itself g = grind (arith, nat_tests)

pub before_then : (g h k : LogicalTime) → IsTrue (is_before g h) → IsTrue (is_at_most h k) → IsTrue (is_before g k)
before_then g h k p q = grind (arith, nat_tests)

pub at_most_then : (g h k : LogicalTime) → IsTrue (is_at_most g h) → IsTrue (is_before h k) → IsTrue (is_before g k)
at_most_then g h k p q = grind (arith, nat_tests)

pub not_before : (g h : LogicalTime) → IsTrue (is_at_most h g) → is_before g h ≡ false
not_before g h p = grind (arith, nat_tests)

pub not_at_most : (g h : LogicalTime) → is_at_most g h ≡ false → IsTrue (is_before h g)
not_at_most g h p = grind (arith, nat_tests)

pub before_asymmetric : (g h : LogicalTime) → IsTrue (is_before h g) → is_before g h ≡ false
before_asymmetric g h p = grind (arith, nat_tests)

pub before_at_most : (g h : LogicalTime) → IsTrue (is_before g h) → IsTrue (is_at_most g h)
before_at_most g h p = grind (arith, nat_tests)

pub after_not_at_most : (g h : LogicalTime) → IsTrue (is_before h g) → is_at_most g h ≡ false
after_not_at_most g h p = grind (arith, nat_tests)

pub before_not_same : (g h : LogicalTime) → IsTrue (is_before g h) → is_same g h ≡ false
before_not_same g h p = grind (arith, nat_tests)

pub after_not_same : (g h : LogicalTime) → IsTrue (is_before h g) → is_same g h ≡ false
after_not_same g h p = grind (arith, nat_tests)

pub before_forever : (g : LogicalTime) → IsFinite g → IsTrue (is_before g forever)
before_forever g p = let t = p.time in grind (arith, nat_tests)

pub at_most_origin : (g : LogicalTime) → IsTrue (is_at_most g origin) → g ≡ origin
at_most_origin g p = grind (arith, nat_tests)

-- ---- places

pub place-before : (g h : LogicalTime) → g.microstep < 2 ^ 32 → h.microstep < 2 ^ 32 → IsTrue (is_before g h) ↔ (place g < place h)
unfolding place
place-before g h p q = grind (arith, nat_tests)

pub place-at_most : (g h : LogicalTime) → g.microstep < 2 ^ 32 → h.microstep < 2 ^ 32 → IsTrue (is_at_most g h) ↔ (place g ≤ place h)
unfolding place
place-at_most g h p q = grind (arith, nat_tests)

pub place_injective : (g h : LogicalTime) → g.microstep < 2 ^ 32 → h.microstep < 2 ^ 32 → place g ≡ place h → g ≡ h
unfolding place
place_injective g h p q e = grind (arith, nat_tests)

-- the same of tags and delays, for arithmetic
pub before_places : (g h : LogicalTime) → IsLogicalTime g → IsLogicalTime h → IsTrue (is_before g h) → place g < place h
before_places g h p q b = (place-before g h p.microstep q.microstep).0 b

pub not_before_places : (g h : LogicalTime) → IsLogicalTime g → IsLogicalTime h → is_before g h ≡ false → place h ≤ place g
not_before_places g h p q b = (place-at_most h g q.microstep p.microstep).0 ((at_most_by_before h g).1 b)

pub before_from_places : (g h : LogicalTime) → IsLogicalTime g → IsLogicalTime h → place g < place h → IsTrue (is_before g h)
before_from_places g h p q b = (place-before g h p.microstep q.microstep).1 b

pub at_most_places : (g h : LogicalTime) → IsLogicalTime g → IsLogicalTime h → IsTrue (is_at_most g h) → place g ≤ place h
at_most_places g h p q b = (place-at_most g h p.microstep q.microstep).0 b

pub at_most_from_places : (g h : LogicalTime) → IsLogicalTime g → IsLogicalTime h → place g ≤ place h → IsTrue (is_at_most g h)
at_most_from_places g h p q b = (place-at_most g h p.microstep q.microstep).1 b

pub equal_places : (g h : LogicalTime) → IsLogicalTime g → IsLogicalTime h → place g ≡ place h → g ≡ h
equal_places g h p q e = place_injective g h p.microstep q.microstep e

-- FOREVER's place, which no other tag has, is the greatest
abbrev pub top : ℕ
top = 2 ^ 94

pub place_of_forever : place forever ≡ top
unfolding place
place_of_forever = refl

pub place_of_origin : place origin ≡ 0
unfolding place
place_of_origin = refl

pub place_bound : (g : LogicalTime) → IsLogicalTime g → place g ≤ top
unfolding place
place_bound g p = let alone = p.forever_alone in grind arith

pub place_of_finite : (g : LogicalTime) → IsFinite g → place g < top
unfolding place
place_of_finite g p = let t = p.time in let m = p.microstep in omega arith

pub finite_by_place : (g : LogicalTime) → IsLogicalTime g → place g < top → g.time < 2 ^ 62
unfolding place
finite_by_place g p l = omega (arith, p.time, p.microstep)

pub not_forever : (g : LogicalTime) → place g < top → g ≡ forever → ⊥
unfolding place
not_forever g l e = let same : place g ≡ top = ap place e in omega arith

-- ---- what is a tag or a delay

pub forever_is_logical : IsLogicalTime forever
forever_is_logical = record { time = omega arith; microstep = omega arith; forever_alone = λ h. refl }

pub origin_is_logical : IsLogicalTime origin
origin_is_logical = record { time = omega arith; microstep = omega arith; forever_alone = λ h. refl }

pub finite_is_logical : (g : LogicalTime) → IsFinite g → IsLogicalTime g
finite_is_logical g p = record { time = omega (arith, p.time); microstep = p.microstep; forever_alone = λ h. absurd (omega (arith, p.time, h)) }

pub finite_is_not_forever : (g : LogicalTime) → IsFinite g → g ≡ forever → ⊥
finite_is_not_forever g p = not_forever g (place_of_finite g p)

pub finite_up_to : (g stop : LogicalTime) → IsLogicalTime g → IsFinite stop → IsTrue (is_at_most g stop) → IsFinite g
finite_up_to g stop p q h = record { time = grind (arith, nat_tests); microstep = p.microstep }

-- ---- the lesser of two, and the predecessor

-- what holds of both holds of the one that a test chooses
pub either_of : (P : LogicalTime → Type 0) (g h : LogicalTime) (b : Bool) → P g → P h → P (if b then g else h)
either_of P g h true p q = p
either_of P g h false p q = q

pub lesser_first : (g h : LogicalTime) → is_before h g ≡ false → lesser g h ≡ g
lesser_first g h e = grind (arith, nat_tests)

pub lesser_second : (g h : LogicalTime) → is_before g h ≡ false → lesser g h ≡ h
lesser_second g h e = grind (arith, nat_tests)

pub lesser_commutes : (g h : LogicalTime) → lesser g h ≡ lesser h g
lesser_commutes g h = grind (arith, nat_tests)

pub lesser_at_most_first : (g h : LogicalTime) → IsTrue (is_at_most (lesser g h) g)
lesser_at_most_first g h = grind (arith, nat_tests)

pub lesser_at_most_second : (g h : LogicalTime) → IsTrue (is_at_most (lesser g h) h)
lesser_at_most_second g h = grind (arith, nat_tests)

pub lesser_associates : (g h k : LogicalTime) → lesser (lesser g h) k ≡ lesser g (lesser h k)
lesser_associates g h k = grind (arith, nat_tests)

pub predecessor_before : (g h : LogicalTime) → IsTrue (is_before g h) → IsTrue (is_before (predecessor_of h) h)
predecessor_before g h b = grind (arith, nat_tests)

pub predecessor_at_least : (g h : LogicalTime) → g.microstep < 2 ^ 32 → IsTrue (is_before g h) → IsTrue (is_at_most g (predecessor_of h))
predecessor_at_least g h m b = grind (arith, nat_tests)

pub predecessor_microstep : (g : LogicalTime) → g.microstep < 2 ^ 32 → (predecessor_of g).microstep < 2 ^ 32
predecessor_microstep g m = grind (arith, nat_tests)
