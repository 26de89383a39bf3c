-- A printed time is a text that spells it.
use Rattle.std.proofs.Common.{◌≡◌, ℕ, ◌*◌, ◌/◌, ◌%◌, ◌^◌, ◌<◌, inl, inr, Bool, true, false, cond, eqb, List, ◌++◌, codes, refl, sym, ap, subst, arith}
use Rattle.std.specs.Fmt.{decimal}
use Rattle.std.proofs.lemmas.Bool.{eqb-true}
use Rattle.std.proofs.lemmas.Fmt.{decimal_is_IsNumeral}
use Rattle.tag_text.specs.Duration.{IsUnit, Spells}
use Rattle.tag.specs.Printed.{printed_time}
use Rattle.tag_text.proofs.Numerals.{numerals}

-- a count of a unit, one space before its name
many_spelled : (count unit : ℕ) (name : List ℕ) → count < 2 ^ 64 → IsUnit name unit → Spells (decimal count ++ (codes " " ++ name)) (count * unit)
many_spelled count unit name small u =
    let numeral = decimal_is_IsNumeral count small in
    inr (record {
      digits = decimal count;
      unit = unit;
      parts = record {
        spaces = 1;
        name = name;
        text_is = refl;
        some_digits = numeral.0.0;
        digits_are = numerals.from (decimal count) numeral.0.1;
        unit_is = u;
      };
      value_is = ap (λ v. v * unit) (sym numeral.1);
    })

divided : (time unit : ℕ) → 0 < unit → time % unit ≡ 0 → (time / unit) * unit ≡ time
divided time unit p e = grind arith

quotient_small : (time unit : ℕ) → time < 2 ^ 62 → 0 < unit → time / unit < 2 ^ 64
quotient_small time unit h p = grind arith

in_unit : (time unit : ℕ) (name rest : List ℕ) (b : Bool) → eqb (time % unit) 0 ≡ b → time < 2 ^ 62 → 0 < unit → IsUnit name unit → Spells rest time → Spells (cond b (decimal (time / unit) ++ (codes " " ++ name)) rest) time
in_unit time unit name rest true e h p u r =
    let whole : time % unit ≡ 0 = eqb-true (time % unit) 0 e in
    let P : ℕ → Type 0 = λ n. Spells (decimal (time / unit) ++ (codes " " ++ name)) n in
    subst P (divided time unit p whole) (many_spelled (time / unit) unit name (quotient_small time unit h p) u)
in_unit time unit name rest false e h p u r = r

unless_zero : (time : ℕ) (rest : List ℕ) (b : Bool) → eqb time 0 ≡ b → Spells rest time → Spells (cond b (codes "0") rest) time
unless_zero time rest true e r = inl (refl, eqb-true time 0 e)
unless_zero time rest false e r = r

in_nanoseconds : (time : ℕ) → time < 2 ^ 62 → Spells (decimal time ++ codes " ns") time
in_nanoseconds time h =
    let P : ℕ → Type 0 = λ n. Spells (decimal time ++ codes " ns") n in
    let one : time * 1 ≡ time = omega arith in
    subst P one (many_spelled time 1 (codes "ns") (omega arith) (inl (inl refl, refl)))

pub printed_time_spelled : (time : ℕ) → time < 2 ^ 62 → Spells (printed_time time) time
printed_time_spelled time h =
    unless_zero time _ (eqb time 0) refl
    (in_unit time 1_000_000_000 (codes "s") _ (eqb (time % 1_000_000_000) 0) refl h (omega arith) (inr (inr (inr (inl refl, refl))))
    (in_unit time 1_000_000 (codes "ms") _ (eqb (time % 1_000_000) 0) refl h (omega arith) (inr (inr (inl (inl refl, refl))))
    (in_unit time 1_000 (codes "us") _ (eqb (time % 1_000) 0) refl h (omega arith) (inr (inl (inl refl, refl)))
    (in_nanoseconds time h))))
