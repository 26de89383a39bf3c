-- What a name is.
use Rattle.std.specs.Prelude.{ℕ, Bool, false, not, ◌&&◌, ◌||◌, nat_eq, nat_lt, List, [], ◌∷◌, length, codes}
use Rattle.std.specs.Char.{is_ascii_digit, is_ascii_alphabetic}
use Rattle.std.specs.List.{list_all, list_any}
use Rattle.std.specs.Str.{bytes_eq}
use Rattle.plan_names.specs.declared.spelling.TheConstants.{LONGEST_NAME}

-- what a name may begin with: a letter or `_`
abbrev pub is_name_start : ℕ → Bool
is_name_start c = is_ascii_alphabetic c || nat_eq c 95

-- what a name may go on with: a letter, `_` or a digit
abbrev pub is_name_character : ℕ → Bool
is_name_character c = is_name_start c || is_ascii_digit c

-- words with a meaning of their own in the forms of lines
abbrev pub form_words : List (List ℕ)
form_words = codes "when" ∷ codes "schedule" ∷ codes "min" ∷ codes "max" ∷ []

-- words with a meaning of their own before a dot, and `startup`, which stands after one
abbrev pub place_words : List (List ℕ)
place_words = codes "in" ∷ codes "out" ∷ codes "has" ∷ codes "startup" ∷ []

-- a word with a meaning of its own
abbrev pub is_reserved : List ℕ → Bool
is_reserved text = list_any (bytes_eq text) form_words || list_any (bytes_eq text) place_words

-- a name: 1 to 32 letters, digits and `_`, of which the first is no digit, and no reserved word
abbrev pub is_name : List ℕ → Bool
is_name [] = false
is_name (first ∷ rest) =
    is_name_start first && list_all is_name_character rest && nat_lt (length rest) LONGEST_NAME
    && not (is_reserved (first ∷ rest))
