-- What body lines are made of: tokens and whole numbers.
use Rattle.std.specs.Prelude.{ℕ, ℤ, pos, neg_ℤ, Bool, true, false, not, ◌&&◌, nat_eq, if◌then◌else◌, List, [], ◌∷◌}
use Rattle.std.specs.Prelude.{drop, filter, slice_index, IsTrue, FitsSigned}
use Rattle.std.specs.Int.{w64}
use Rattle.std.specs.List.{slice_split}
use Rattle.std.specs.Str.{all_ascii_digits}
use Rattle.std.specs.Str.Parse.{digits_value}

-- a space
abbrev pub is_space : ℕ → Bool
is_space c = nat_eq c 32

-- a `:`
abbrev pub is_colon : ℕ → Bool
is_colon c = nat_eq c 58

-- a character that neither a space nor `:` is
abbrev pub is_word_character : ℕ → Bool
is_word_character c = not (is_space c) && not (is_colon c)

-- the text with a space on both sides of each `:`
abbrev pub spaced : List ℕ → List ℕ
spaced [] = []
spaced (c ∷ rest) = if is_colon c then 32 ∷ c ∷ 32 ∷ spaced rest else c ∷ spaced rest

-- a text of at least one character
abbrev pub is_some_text : List ℕ → Bool
is_some_text [] = false
is_some_text (c ∷ rest) = true

-- the tokens of a line: what stands between its spaces; each `:` is a token of its own
abbrev pub tokens_of : List ℕ → List (List ℕ)
tokens_of line = filter is_some_text (slice_split is_space (spaced line))

-- the token begins with `-`
abbrev pub has_minus : List ℕ → Bool
has_minus token = nat_eq (slice_index token 0) 45

-- what stands after the `-`, if there is one
abbrev pub digits_in : List ℕ → List ℕ
digits_in token = drop (if has_minus token then 1 else 0) token

-- digits, at least one
abbrev pub is_numeral : List ℕ → Bool
is_numeral digits = is_some_text digits && all_ascii_digits digits

-- the number that digits spell, negative after a `-`
abbrev pub number_in : List ℕ → ℤ
number_in token =
    if has_minus token then neg_ℤ (pos (digits_value 10 (digits_in token))) else pos (digits_value 10 (digits_in token))

-- a token that is digits, perhaps after a `-`, for a number of 64 bits
pub record IsWholeNumber (token : List ℕ) : Type 0 where
  pub digits : IsTrue (is_numeral (digits_in token))
  pub fits : FitsSigned w64 (number_in token)
