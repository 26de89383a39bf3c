-- The test of digits.
use Rattle.std.proofs.Common.{refl, ◌&&◌, [], ◌∷◌, ◌≡◌, ℕ, List, ap}
use Rattle.std.specs.Char.{is_ascii_digit}
use Rattle.std.specs.List.{list_all}
use Rattle.std.specs.Str.{all_ascii_digits}

pub digits_listed : (ds : List ℕ) → list_all is_ascii_digit ds ≡ all_ascii_digits ds
digits_listed [] = refl
digits_listed (c ∷ cs) = ap (λ r. is_ascii_digit c && r) (digits_listed cs)
