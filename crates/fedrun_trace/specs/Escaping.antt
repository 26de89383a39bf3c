-- Bytes of a text in a JSON string.
use Rattle.std.specs.Prelude.{ℕ, ◌/◌, ◌%◌, List, [], ◌∷◌, cond, nat_lt}
use Rattle.std.specs.Char.{digit_char}

-- one that has no short escape: a control character by its number, to the base 16
abbrev pub plain_byte : ℕ → List ℕ
plain_byte x =
    cond (nat_lt x 32) (92 ∷ 117 ∷ 48 ∷ 48 ∷ digit_char (x / 16) ∷ digit_char (x % 16) ∷ []) (x ∷ [])
