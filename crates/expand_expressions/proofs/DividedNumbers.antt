-- The numbers of a division: what wraps doesn't, since all of them fit.
use Rattle.std.proofs.Common.{◌≡◌, ℕ, zero, suc, ◌+◌, ◌-◌, ◌*◌, ◌/◌, ◌%◌, ◌^◌, ◌<◌, ◌≤◌, ℤ, pos, negsuc, neg_ℤ, ◌+ℤ◌, ◌-ℤ◌, ◌*ℤ◌, Bool, true, false, cond, refl, sym, ap, ◌∙◌, subst, arith, lit<}
use Rattle.std.specs.Prelude.{nat_le, nat_lt, int_lt, int_div, int_rem, unsigned_abs, FitsSigned}
use Rattle.std.specs.Ordering.{int_eq}
use Rattle.std.specs.Int.{w64, int_min, int_wrap, int_wrapping_add, int_wrapping_sub, int_wrapping_mul, int_wrapping_div, cast_signed, cast_unsigned}
use Rattle.expand_expressions.specs.Meaning.{quotient_value, remainder_value}
use Rattle.expand_expressions.specs.Division.{factor}
use Rattle.std.proofs.lemmas.Int.{ints, wrapping_add_is, wrapping_sub_is, wrapping_mul_is, int_wrap_fits, to_z-of_z}
use Rattle.std.proofs.Math.Nat.{mul-add-div, mul-add-mod_self_left, div-eq_of_lt, mod-eq_of_lt, div-one, mod-one, div-lt_self, mul_assoc, pow-suc}
use Rattle.std.proofs.lemmas.Nat.{mod_below}
use Rattle.std.proofs.Math.IntN.{*ℤ-zero}
use Rattle.std.proofs.Math.Pow.{pow-lt}

-- a number that was made negative
abbrev pub lowered : ℕ → ℤ
lowered n = neg_ℤ (pos n)

pub lowered_fits : (n : ℕ) → n ≤ 2 ^ 63 → FitsSigned w64 (lowered n)
lowered_fits zero most = record { sfits = lit< tt }
lowered_fits (suc n) most = record { sfits = omega arith }

-- the multiple is there
pub part_in : (r p : ℕ) (b : Bool) → nat_le p r ≡ b → int_lt (lowered r) (lowered p +ℤ pos 1) ≡ b
part_in r p true is = let h : p ≤ r = grind arith in grind (arith, ints)
part_in r p false is = let h : r < p = grind arith in grind (arith, ints)

pub rest_less : (r p : ℕ) → r ≤ 2 ^ 63 → p ≤ r → int_wrapping_sub w64 (lowered r) (lowered p) ≡ lowered (r - p)
rest_less r p most there =
    let less : lowered r -ℤ lowered p ≡ lowered (r - p) = omega (arith, ints) in
    wrapping_sub_is w64 (lowered r) (lowered p) (lowered_fits r most) (lowered_fits p (omega arith))
    ∙ ap (int_wrap w64) less ∙ int_wrap_fits w64 (lowered (r - p)) (lowered_fits (r - p) (omega arith))

pub quotient_more : (x w : ℕ) → x + w ≤ 2 ^ 63 → w < 2 ^ 63 → int_wrapping_sub w64 (lowered x) (pos w) ≡ lowered (x + w)
quotient_more x w most below =
    let more : lowered x -ℤ pos w ≡ lowered (x + w) = omega (arith, ints) in
    let fits : FitsSigned w64 (pos w) = record { sfits = below } in
    wrapping_sub_is w64 (lowered x) (pos w) (lowered_fits x (omega arith)) fits
    ∙ ap (int_wrap w64) more ∙ int_wrap_fits w64 (lowered (x + w)) (lowered_fits (x + w) most)

-- to turn a number
pub turned_is : (n : ℕ) → n < 2 ^ 63 → int_wrapping_sub w64 (pos 0) (lowered n) ≡ pos n
turned_is n below =
    let turned : pos 0 -ℤ lowered n ≡ pos n = omega (arith, ints) in
    let none : FitsSigned w64 (pos 0) = record { sfits = lit< tt } in
    let fits : FitsSigned w64 (pos n) = record { sfits = below } in
    wrapping_sub_is w64 (pos 0) (lowered n) none (lowered_fits n (omega arith)) ∙ ap (int_wrap w64) turned ∙ int_wrap_fits w64 (pos n) fits

pub plus_none : (z : ℤ) → FitsSigned w64 z → int_wrapping_add w64 z (pos 0) ≡ z
plus_none z fits =
    let same : z +ℤ pos 0 ≡ z = omega (arith, ints) in
    let none : FitsSigned w64 (pos 0) = record { sfits = lit< tt } in
    wrapping_add_is w64 z (pos 0) fits none ∙ ap (int_wrap w64) same ∙ int_wrap_fits w64 z fits

-- the number, made negative
pub begun_is : (z : ℤ) → FitsSigned w64 z → int_min (int_wrapping_sub w64 (pos 0) z) z ≡ lowered (unsigned_abs z)
begun_is (pos n) fits =
    let none : FitsSigned w64 (pos 0) = record { sfits = lit< tt } in
    let below : n < 2 ^ 63 = fits.sfits in
    let turned : pos 0 -ℤ pos n ≡ lowered n = omega (arith, ints) in
    let is : int_wrapping_sub w64 (pos 0) (pos n) ≡ lowered n =
    wrapping_sub_is w64 (pos 0) (pos n) none fits ∙ ap (int_wrap w64) turned ∙ int_wrap_fits w64 (lowered n) (lowered_fits n (omega arith)) in
    ap (λ z. int_min z (pos n)) is ∙ least
  where
    least : int_min (lowered n) (pos n) ≡ lowered n
    least = grind (arith, ints)
begun_is (negsuc n) fits = by_size (nat_lt (n + 1) (2 ^ 63)) refl
  where
    none : FitsSigned w64 (pos 0)
    none = record { sfits = lit< tt }

    least : int_min (pos (n + 1)) (negsuc n) ≡ negsuc n
    least = grind (arith, ints)

    lowest : (m : ℕ) → m ≡ 2 ^ 63 - 1 → int_min (int_wrapping_sub w64 (pos 0) (negsuc m)) (negsuc m) ≡ negsuc m
    lowest m is = let P : ℕ → Type 0 = λ m. int_min (int_wrapping_sub w64 (pos 0) (negsuc m)) (negsuc m) ≡ negsuc m in subst P (sym is) refl

    by_size : (b : Bool) → nat_lt (n + 1) (2 ^ 63) ≡ b → int_min (int_wrapping_sub w64 (pos 0) (negsuc n)) (negsuc n) ≡ negsuc n
    by_size true is =
        let below : n + 1 < 2 ^ 63 = grind arith in
        let up : FitsSigned w64 (pos (n + 1)) = record { sfits = below } in
        let turned : pos 0 -ℤ negsuc n ≡ pos (n + 1) = omega (arith, ints) in
        ap (λ z. int_min z (negsuc n)) (wrapping_sub_is w64 (pos 0) (negsuc n) none fits ∙ ap (int_wrap w64) turned ∙ int_wrap_fits w64 (pos (n + 1)) up) ∙ least
    by_size false is =
        let within : n < 2 ^ 63 = fits.sfits in
        let above : 2 ^ 63 ≤ n + 1 = grind arith in
        let at : n ≡ 2 ^ 63 - 1 = omega arith in
        lowest n at

-- all multiples from one on
pub step_div : (size w r : ℕ) → 0 < size → size * w ≤ r → (r - size * w) / size + w ≡ r / size
step_div size w r some there =
    let left = r - size * w in
    let back : size * w + left ≡ r = omega arith in
    let parts : (size * w + left) / size ≡ w + left / size = mul-add-div some w left in
    let turned : left / size + w ≡ w + left / size = omega arith in
    turned ∙ sym parts ∙ ap (λ n. n / size) back

pub step_mod : (size w r : ℕ) → 0 < size → size * w ≤ r → (r - size * w) % size ≡ r % size
step_mod size w r some there =
    let left = r - size * w in
    let back : size * w + left ≡ r = omega arith in
    sym (mul-add-mod_self_left size w left) ∙ ap (λ n. n % size) back

-- where less than one is left
pub none_div : (size r : ℕ) → r < size → r / size ≡ 0
none_div size r below = div-eq_of_lt below

pub none_mod : (size r : ℕ) → r < size → r % size ≡ r
none_mod size r below = mod-eq_of_lt below

-- the next multiple is twice this one
pub doubled : (size bit : ℕ) → size * 2 ^ suc bit ≡ size * 2 ^ bit + size * 2 ^ bit
doubled size bit =
    let twice : size * 2 ^ bit * 2 ≡ size * 2 ^ bit + size * 2 ^ bit = omega arith in
    ap (λ n. size * n) (pow-suc 2 bit) ∙ sym (mul_assoc size (2 ^ bit) 2) ∙ twice

pub weight_fits : (bit : ℕ) → bit < 63 → 2 ^ bit < 2 ^ 63
weight_fits bit below = pow-lt below

-- a divisor of two or more leaves less than all
pub less_left : (size n : ℕ) → 1 < size → n ≤ 2 ^ 63 → n / size < 2 ^ 63
less_left size zero some most = let none : 0 / size ≡ 0 = div-eq_of_lt (omega arith) in omega (arith, none)
less_left size (suc n) some most = let smaller : suc n / size < suc n = div-lt_self (omega arith) some in omega arith

pub size_fits : (z : ℤ) → FitsSigned w64 z → unsigned_abs z ≤ 2 ^ 63
size_fits (pos n) fits = let h : n < 2 ^ 63 = fits.sfits in omega arith
size_fits (negsuc n) fits = let h : n < 2 ^ 63 = fits.sfits in omega arith

pub rest_fits : (z : ℤ) (size : ℕ) → 1 < size → size ≤ 2 ^ 63 → unsigned_abs z % size < 2 ^ 63
rest_fits z size some most = let below = mod_below (unsigned_abs z) size (omega arith) in omega (arith, below)

pub either_fits : (b : Bool) (n : ℕ) → n < 2 ^ 63 → FitsSigned w64 (cond b (pos n) (lowered n))
either_fits true n below = record { sfits = below }
either_fits false n below = lowered_fits n (omega arith)

pub few_is : (n : ℕ) → nat_lt n 2 ≡ true → n < 2
few_is n is = grind arith

pub some_is : (n : ℕ) → nat_lt n 2 ≡ false → 1 < n
some_is n is = grind arith

not_zero : (divisor : ℤ) → 1 < unsigned_abs divisor → int_eq divisor (pos 0) ≡ false
not_zero (pos d) some = let h : 1 < d = some in grind (arith, ints)
not_zero (negsuc d) some = refl

divides : (z divisor : ℤ) → int_eq divisor (pos 0) ≡ false → FitsSigned w64 (int_div z divisor) → int_div z divisor ≡ quotient_value z divisor
divides z divisor some fits =
    sym (ap (λ b. cond b (pos 0) (int_wrapping_div w64 z divisor)) some ∙ to_z-of_z w64 (int_div z divisor) fits)

-- the quotient and the remainder, with their signs
abbrev pub quotient_turned : ℤ → ℤ → Bool
quotient_turned z divisor = cond (int_lt divisor (pos 0)) (int_lt z (pos 0)) (int_lt (pos 0) z)

pub quotient_is : (z divisor : ℤ) → FitsSigned w64 z → 1 < unsigned_abs divisor →
    cond (quotient_turned z divisor) (pos (unsigned_abs z / unsigned_abs divisor)) (lowered (unsigned_abs z / unsigned_abs divisor)) ≡ quotient_value z divisor
quotient_is (pos zero) (pos d) fits some =
    let is : quotient_turned (pos 0) (pos d) ≡ false = grind arith in
    let none : 0 / d ≡ 0 = let h : 1 < d = some in div-eq_of_lt (omega arith) in
    let small : FitsSigned w64 (pos (0 / d)) = record { sfits = omega (arith, none) } in
    ap (λ b. cond b (pos (0 / d)) (lowered (0 / d))) is ∙ ap lowered none ∙ sym (ap pos none) ∙ divides (pos 0) (pos d) (not_zero (pos d) some) small
quotient_is (pos (suc n)) (pos d) fits some =
    let h : 1 < d = some in
    let is : quotient_turned (pos (suc n)) (pos d) ≡ true = grind arith in
    let within : suc n < 2 ^ 63 = fits.sfits in
    let small : FitsSigned w64 (pos (suc n / d)) = record { sfits = less_left d (suc n) h (omega arith) } in
    ap (λ b. cond b (pos (suc n / d)) (lowered (suc n / d))) is ∙ divides (pos (suc n)) (pos d) (not_zero (pos d) some) small
quotient_is (pos n) (negsuc d) fits some =
    let h : 1 < suc d = some in
    let is : quotient_turned (pos n) (negsuc d) ≡ false = grind arith in
    let within : n < 2 ^ 63 = fits.sfits in
    let less = less_left (suc d) n h (omega arith) in
    let small : FitsSigned w64 (lowered (n / suc d)) = lowered_fits (n / suc d) (omega (arith, less)) in
    ap (λ b. cond b (pos (n / suc d)) (lowered (n / suc d))) is ∙ divides (pos n) (negsuc d) refl small
quotient_is (negsuc n) (pos d) fits some =
    let h : 1 < d = some in
    let is : quotient_turned (negsuc n) (pos d) ≡ false = grind arith in
    let within : n < 2 ^ 63 = fits.sfits in
    let less = less_left d (suc n) h (omega arith) in
    let small : FitsSigned w64 (lowered (suc n / d)) = lowered_fits (suc n / d) (omega (arith, less)) in
    ap (λ b. cond b (pos (suc n / d)) (lowered (suc n / d))) is ∙ divides (negsuc n) (pos d) (not_zero (pos d) some) small
quotient_is (negsuc n) (negsuc d) fits some =
    let h : 1 < suc d = some in
    let within : n < 2 ^ 63 = fits.sfits in
    let small : FitsSigned w64 (pos (suc n / suc d)) = record { sfits = less_left (suc d) (suc n) h (omega arith) } in
    divides (negsuc n) (negsuc d) refl small

leaves : (z divisor : ℤ) → 1 < unsigned_abs divisor → int_rem z divisor ≡ remainder_value z divisor
leaves z divisor some = sym (ap (λ b. cond b z (int_rem z divisor)) (not_zero divisor some))

pub remainder_is : (z divisor : ℤ) → 1 < unsigned_abs divisor →
    cond (int_lt (pos 0) z) (pos (unsigned_abs z % unsigned_abs divisor)) (lowered (unsigned_abs z % unsigned_abs divisor)) ≡ remainder_value z divisor
remainder_is (pos zero) divisor some =
    let none : 0 % unsigned_abs divisor ≡ 0 = mod-eq_of_lt (omega arith) in
    ap lowered none ∙ sym (ap pos none) ∙ leaves (pos 0) divisor some
remainder_is (pos (suc n)) divisor some =
    let is : nat_lt 0 (suc n) ≡ true = grind arith in
    let rest = suc n % unsigned_abs divisor in
    ap (λ b. cond b (pos rest) (lowered rest)) is ∙ leaves (pos (suc n)) divisor some
remainder_is (negsuc n) divisor some = leaves (negsuc n) divisor some

-- by -1, 0 and 1
none_fits : FitsSigned w64 (pos 0)
none_fits = record { sfits = lit< tt }

one_fits : FitsSigned w64 (pos 1)
one_fits = record { sfits = lit< tt }

times_none : (z : ℤ) → FitsSigned w64 z → int_wrapping_mul w64 z (pos 0) ≡ pos 0
times_none z fits = wrapping_mul_is w64 z (pos 0) fits none_fits ∙ ap (int_wrap w64) (*ℤ-zero z) ∙ int_wrap_fits w64 (pos 0) none_fits

times_one : (z : ℤ) → FitsSigned w64 z → int_wrapping_mul w64 z (pos 1) ≡ z
times_one z fits =
    let same : z *ℤ pos 1 ≡ z = omega (arith, ints) in
    wrapping_mul_is w64 z (pos 1) fits one_fits ∙ ap (int_wrap w64) same ∙ int_wrap_fits w64 z fits

by_one : (z : ℤ) → int_div z (pos 1) ≡ z
by_one (pos n) = ap pos (div-one n)
by_one (negsuc n) = ap lowered (div-one (suc n))

by_minus_one : (z : ℤ) → int_div z (negsuc 0) ≡ neg_ℤ z
by_minus_one (pos n) = ap lowered (div-one n)
by_minus_one (negsuc n) = ap pos (div-one (suc n))

times_minus_one : (z : ℤ) → z *ℤ negsuc 0 ≡ neg_ℤ z
times_minus_one z = omega (arith, ints)

-- the least number stays when it is turned
least_wraps : int_wrap w64 (pos (2 ^ 63)) ≡ cast_signed w64 (cast_unsigned w64 (pos (2 ^ 63)))
unfolding int_wrap
least_wraps = refl

turned_wraps : (z : ℤ) → FitsSigned w64 z → int_wrap w64 (neg_ℤ z) ≡ cast_signed w64 (cast_unsigned w64 (neg_ℤ z))
turned_wraps (pos n) fits =
    let within : n < 2 ^ 63 = fits.sfits in
    let small = lowered_fits n (omega arith) in
    int_wrap_fits w64 (lowered n) small ∙ sym (to_z-of_z w64 (lowered n) small)
turned_wraps (negsuc n) fits = by_size (nat_lt (n + 1) (2 ^ 63)) refl
  where
    Same : ℤ → Type 0
    Same z = int_wrap w64 z ≡ cast_signed w64 (cast_unsigned w64 z)

    by_size : (b : Bool) → nat_lt (n + 1) (2 ^ 63) ≡ b → Same (pos (suc n))
    by_size true is =
        let below : n + 1 < 2 ^ 63 = grind arith in
        let small : FitsSigned w64 (pos (suc n)) = record { sfits = omega arith } in
        int_wrap_fits w64 (pos (suc n)) small ∙ sym (to_z-of_z w64 (pos (suc n)) small)
    by_size false is =
        let within : n < 2 ^ 63 = fits.sfits in
        let above : 2 ^ 63 ≤ n + 1 = grind arith in
        let at : suc n ≡ 2 ^ 63 = omega arith in
        subst (λ m. Same (pos m)) (sym at) least_wraps

pub small_quotient : (z divisor : ℤ) → FitsSigned w64 z → unsigned_abs divisor < 2 → int_wrapping_mul w64 z (factor divisor true) ≡ quotient_value z divisor
small_quotient z (pos zero) fits few = times_none z fits
small_quotient z (pos (suc zero)) fits few =
    times_one z fits ∙ sym (by_one z) ∙ divides z (pos 1) refl (subst (λ z. FitsSigned w64 z) (sym (by_one z)) fits)
small_quotient z (pos (suc (suc d))) fits few = let h : suc (suc d) < 2 = few in absurd (omega arith)
small_quotient z (negsuc zero) fits few =
    let less : FitsSigned w64 (negsuc 0) = record { sfits = lit< tt } in
    wrapping_mul_is w64 z (negsuc 0) fits less ∙ ap (int_wrap w64) (times_minus_one z) ∙ turned_wraps z fits
    ∙ sym (ap (λ z. cast_signed w64 (cast_unsigned w64 z)) (by_minus_one z))
small_quotient z (negsuc (suc d)) fits few = let h : suc (suc d) < 2 = few in absurd (omega arith)

leaves_none : (z : ℤ) → int_rem z (pos 1) ≡ pos 0
leaves_none (pos n) = ap pos (mod-one n)
leaves_none (negsuc n) = ap lowered (mod-one (suc n))

leaves_none_turned : (z : ℤ) → int_rem z (negsuc 0) ≡ pos 0
leaves_none_turned (pos n) = ap pos (mod-one n)
leaves_none_turned (negsuc n) = ap lowered (mod-one (suc n))

pub small_remainder : (z divisor : ℤ) → FitsSigned w64 z → unsigned_abs divisor < 2 → int_wrapping_mul w64 z (factor divisor false) ≡ remainder_value z divisor
small_remainder z (pos zero) fits few = times_one z fits
small_remainder z (pos (suc zero)) fits few = times_none z fits ∙ sym (leaves_none z)
small_remainder z (pos (suc (suc d))) fits few = let h : suc (suc d) < 2 = few in absurd (omega arith)
small_remainder z (negsuc zero) fits few = times_none z fits ∙ sym (leaves_none_turned z)
small_remainder z (negsuc (suc d)) fits few = let h : suc (suc d) < 2 = few in absurd (omega arith)
