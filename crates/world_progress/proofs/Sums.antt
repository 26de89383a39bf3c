-- Sums over all numbers below a count.
use Rattle.std.proofs.Common.{◌≡◌, ◌≢◌, ℕ, zero, suc, ◌+◌, ◌*◌, ◌<◌, ◌≤◌, inl, inr, Bool, true, false, refl, ap, arith}
use Rattle.std.specs.Prelude.{nat_eq, if◌then◌else◌}
use Rattle.std.proofs.lemmas.Bool.{cases_lt, eq-eqb, eqb-true, ne_eqb}
use Rattle.std.proofs.Math.Nat.{mul-suc, mul-add}
use Rattle.world_progress.specs.Fuel.{sum_below}

-- this amount where a test passes
abbrev pub where_so : Bool → ℕ → ℕ
where_so b k = if b then k else 0

-- this amount where it doesn't
abbrev pub unless_so : Bool → ℕ → ℕ
unless_so b k = if b then 0 else k

-- this amount at one number, and nothing elsewhere
abbrev pub at_one : ℕ → ℕ → ℕ → ℕ
at_one i k j = where_so (nat_eq j i) k

pub sum_at_most : (count : ℕ) (f g : ℕ → ℕ) → ((j : ℕ) → j < count → f j ≤ g j) → sum_below count f ≤ sum_below count g
sum_at_most zero f g h = omega arith
sum_at_most (suc count) f g h =
    let more = sum_at_most count f g (λ j l. h j (omega arith)) in
    let last = h count (omega arith) in
    omega arith

pub sum_same : (count : ℕ) (f g : ℕ → ℕ) → ((j : ℕ) → j < count → f j ≡ g j) → sum_below count f ≡ sum_below count g
sum_same zero f g h = refl
sum_same (suc count) f g h =
    let more = sum_same count f g (λ j l. h j (omega arith)) in
    let last = h count (omega arith) in
    omega arith

pub sum_plus : (count : ℕ) (f g : ℕ → ℕ) → sum_below count (λ j. f j + g j) ≡ sum_below count f + sum_below count g
sum_plus zero f g = refl
sum_plus (suc count) f g = let more = sum_plus count f g in omega arith

-- the same number each time
pub sum_of_each : (k count : ℕ) → sum_below count (λ j. k) ≡ k * count
sum_of_each k zero = omega arith
sum_of_each k (suc count) =
    let more = sum_of_each k count in
    let product = mul-suc k count in
    omega arith

pub sum_times : (w count : ℕ) (f : ℕ → ℕ) → sum_below count (λ j. w * f j) ≡ w * sum_below count f
sum_times w zero f = omega arith
sum_times w (suc count) f =
    let more = sum_times w count f in
    let product = mul-add w (f count) (sum_below count f) in
    omega arith

nothing_of : (i k count : ℕ) → count ≤ i → sum_below count (at_one i k) ≡ 0
nothing_of i k zero h = refl
nothing_of i k (suc count) h =
    let more = nothing_of i k count (omega arith) in
    let other : at_one i k count ≡ 0 = ap (λ (b : Bool). where_so b k) (ne_eqb count i (λ e. omega arith)) in
    omega arith

below : (count i : ℕ) → nat_eq count i ≡ false → i < suc count → i < count
below count i e l = elim (cases_lt i count) [ inl less ↦ less | inr not ↦ absurd (apart e (omega arith)) ]
  where
    apart : nat_eq count i ≡ false → count ≢ i
    apart e q = let same = eq-eqb count i q in cc

one_more : (i k count : ℕ) (b : Bool) → nat_eq count i ≡ b → i < suc count → (i < count → sum_below count (at_one i k) ≡ k) → sum_below (suc count) (at_one i k) ≡ k
one_more i k count true e l h =
    let is = eqb-true count i e in
    let none = nothing_of i k count (omega arith) in
    let here : at_one i k count ≡ k = ap (λ (b : Bool). where_so b k) e in
    omega arith
one_more i k count false e l h =
    let more = h (below count i e l) in
    let here : at_one i k count ≡ 0 = ap (λ (b : Bool). where_so b k) e in
    omega arith

-- where that number is below the count, just this
pub sum_of_one : (i k count : ℕ) → i < count → sum_below count (at_one i k) ≡ k
sum_of_one i k zero h = absurd (omega arith)
sum_of_one i k (suc count) h = one_more i k count (nat_eq count i) refl h (λ l. sum_of_one i k count l)

-- and never more
pub sum_of_one_at_most : (i k count : ℕ) → sum_below count (at_one i k) ≤ k
sum_of_one_at_most i k count = elim (cases_lt i count) [
  | inl l ↦ let e = sum_of_one i k count l in omega arith
  | inr l ↦ let e = nothing_of i k count l in omega arith
]
