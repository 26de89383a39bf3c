-- The laws of sums, of tags with delays as of delays with delays.
use Rattle.std.proofs.Common.{◌≡◌, ◌+◌, ◌*◌, ◌^◌, ◌<◌, ◌≤◌, IsTrue, arith, min, max, inl, inr}
use Rattle.std.proofs.lemmas.Bool.Decides.{nat_tests}
use Rattle.std.proofs.lemmas.Bool.{cases_lt}
use Rattle.tag.specs.LogicalTime.{LogicalTime, IsLogicalTime, CarriesNothing, is_before, is_at_most, place, origin, forever, sum_of, one_microstep, successor_of}

pub sum_is_logical : (g d : LogicalTime) → IsLogicalTime g → IsLogicalTime d → IsLogicalTime (sum_of g d)
sum_is_logical g d p q = record {
  time = grind (arith, nat_tests);
  microstep = grind (arith, nat_tests);
  forever_alone = grind (arith, nat_tests);
}

pub place-sum_of : (g d : LogicalTime) → IsLogicalTime g → IsLogicalTime d → place (sum_of g d) ≡ min (2 ^ 94) (min (place g + place d) (g.time * 2 ^ 32 + max (2 ^ 32) (place d)))
unfolding place
place-sum_of g d p q = grind (arith, nat_tests)

twice_moving : (g a b : LogicalTime) → 0 < b.time → IsTrue (is_at_most (sum_of g (sum_of a b)) (sum_of (sum_of g a) b))
twice_moving g a b p = grind (arith, nat_tests)

twice_moving_first : (g a b : LogicalTime) → b.time ≡ 0 → 0 < a.time → IsTrue (is_at_most (sum_of g (sum_of a b)) (sum_of (sum_of g a) b))
twice_moving_first g a b p q = grind (arith, nat_tests)

twice_staying : (g a b : LogicalTime) → b.time ≡ 0 → a.time ≡ 0 → IsTrue (is_at_most (sum_of g (sum_of a b)) (sum_of (sum_of g a) b))
twice_staying g a b p q = grind (arith, nat_tests)

pub sum_twice_at_least : (g a b : LogicalTime) → IsTrue (is_at_most (sum_of g (sum_of a b)) (sum_of (sum_of g a) b))
sum_twice_at_least g a b =
    elim (cases_lt 0 b.time) [ inl p ↦ twice_moving g a b p | inr p ↦ elim (cases_lt 0 a.time) [ inl q ↦ twice_moving_first g a b (omega arith) q | inr q ↦ twice_staying g a b (omega arith) (omega arith) ] ]

pub sum_twice : (g a b : LogicalTime) → CarriesNothing g a → sum_of (sum_of g a) b ≡ sum_of g (sum_of a b)
sum_twice g a b h = grind (arith, nat_tests)

pub sum_monotone_left : (g h d : LogicalTime) → IsTrue (is_at_most g h) → IsTrue (is_at_most (sum_of g d) (sum_of h d))
sum_monotone_left g h d p = grind (arith, nat_tests)

pub sum_monotone_right : (g d e : LogicalTime) → IsTrue (is_at_most d e) → IsTrue (is_at_most (sum_of g d) (sum_of g e))
sum_monotone_right g d e p = grind (arith, nat_tests)

pub sum_at_least_first : (g d : LogicalTime) → IsLogicalTime g → IsTrue (is_at_most g (sum_of g d))
sum_at_least_first g d p = grind (arith, nat_tests)

pub sum_microstep : (g d : LogicalTime) → (sum_of g d).microstep ≤ g.microstep + d.microstep
sum_microstep g d = grind (arith, nat_tests)

pub sum_microstep_below : (g d : LogicalTime) → (sum_of g d).microstep < 2 ^ 32
sum_microstep_below g d = grind (arith, nat_tests)

pub sum_later : (g d : LogicalTime) → IsLogicalTime g → (g ≡ forever → ⊥) → (d ≡ origin → ⊥) → IsTrue (is_before g (sum_of g d))
sum_later g d p f n = grind (arith, nat_tests)

pub successor_later : (g : LogicalTime) → IsLogicalTime g → (g ≡ forever → ⊥) → IsTrue (is_before g (successor_of g))
successor_later g p f = grind (arith, nat_tests)

pub successor_least : (g h : LogicalTime) → IsLogicalTime g → IsLogicalTime h → IsTrue (is_before g h) → IsTrue (is_at_most (successor_of g) h)
successor_least g h p q b = grind (arith, nat_tests)

pub successor_at_least : (g : LogicalTime) → IsLogicalTime g → IsTrue (is_at_most g (successor_of g))
successor_at_least g p = sum_at_least_first g one_microstep p
