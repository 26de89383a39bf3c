-- Words in a text, and spaces.
use Rattle.std.specs.Prelude.{◌≡◌, ℕ, Bool, false, ◌||◌, nat_eq, List, [], ◌∷◌, ◌++◌, replicate, IsTrue}
use Rattle.std.specs.Char.{is_ascii_digit, is_ascii_alphabetic}
use Rattle.std.specs.List.{list_all}

-- letters, digits, `_` and `.`
abbrev pub is_word_character : ℕ → Bool
is_word_character c = is_ascii_alphabetic c || is_ascii_digit c || nat_eq c 95 || nat_eq c 46

abbrev pub begins_word : List ℕ → Bool
begins_word [] = false
begins_word (c ∷ rest) = is_word_character c

-- a text is a word, which goes on as far as it can, and what follows it
abbrev pub IsWordInFront : List ℕ → List ℕ → List ℕ → Type 0
IsWordInFront text word rest =
    (text ≡ word ++ rest) × IsTrue (list_all is_word_character word) × (begins_word rest ≡ false)

-- some spaces stand in front of the rest
abbrev pub IsBehindSpaces : List ℕ → List ℕ → Type 0
IsBehindSpaces text rest = (spaces : ℕ) × (text ≡ replicate spaces 32 ++ rest)
