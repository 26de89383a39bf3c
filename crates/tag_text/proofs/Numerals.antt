-- Decimal digits, one after another.
use Rattle.std.proofs.Common.{◌≡◌, ℕ, ◌+◌, ◌-◌, ◌*◌, ◌^◌, ◌<◌, ◌≤◌, List, length, get_or, take, IsTrue, true, ap, ◌∙◌, arith}
use Rattle.std.specs.Int.{IsInRange}
use Rattle.std.specs.Str.{all_ascii_digits}
use Rattle.std.specs.Str.Parse.{digits_value}
use Rattle.std.proofs.lemmas.List.{take_all}
use Rattle.std.proofs.lemmas.Str.{digit_value_digit}
use Rattle.std.proofs.lemmas.Str.Parse.{IsNumeralModel, numerals_by_value, tells_all_ascii_digits, digit_at, digits_value-take-le}
use Rattle.std.proofs.lemmas.Int.Digits.{digits_value_more}

pub numerals : IsNumeralModel (λ ds. all_ascii_digits ds ≡ true) (digits_value 10)
numerals = numerals_by_value _ tells_all_ascii_digits

pub digit_in_range : (ds : List ℕ) (i : ℕ) → IsTrue (all_ascii_digits ds) → i < length ds → IsInRange 48 57 (get_or ds i 0)
digit_in_range ds i a h = digit_at ds i (numerals.to ds a) h

pub next_digit : (ds : List ℕ) (i : ℕ) → IsTrue (all_ascii_digits ds) → i < length ds → digits_value 10 (take (i + 1) ds) ≡ digits_value 10 (take i ds) * 10 + (get_or ds i 0 - 48)
next_digit ds i a h =
    let more = digits_value_more 10 ds i h in
    let value = digit_value_digit (get_or ds i 0) (digit_in_range ds i a h) in
    omega (arith, more, value)

pub front_at_most : (ds : List ℕ) (i : ℕ) → digits_value 10 (take i ds) ≤ digits_value 10 ds
front_at_most ds i = digits_value-take-le 10 ds i (omega arith)

-- once the digits so far leave no room for the next, all of them are too many
pub no_room_to_shift : (ds : List ℕ) (i n : ℕ) → IsTrue (all_ascii_digits ds) → i < length ds → n ≡ digits_value 10 (take i ds) → (n * 10 < 2 ^ 64 → ⊥) → digits_value 10 ds < 2 ^ 64 → ⊥
no_room_to_shift ds i n a h e full small = omega (arith, full, next_digit ds i a h, front_at_most ds (i + 1))

pub no_room_to_add : (ds : List ℕ) (i n : ℕ) → IsTrue (all_ascii_digits ds) → i < length ds → n ≡ digits_value 10 (take i ds) → (n * 10 + (get_or ds i 0 - 48) < 2 ^ 64 → ⊥) → digits_value 10 ds < 2 ^ 64 → ⊥
no_room_to_add ds i n a h e full small = omega (arith, full, next_digit ds i a h, front_at_most ds (i + 1))

pub whole_number : (ds : List ℕ) (i n : ℕ) → length ds ≤ i → n ≡ digits_value 10 (take i ds) → n ≡ digits_value 10 ds
whole_number ds i n h e = e ∙ ap (digits_value 10) (take_all i ds h)
