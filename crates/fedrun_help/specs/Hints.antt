-- Whether hints are wanted, as the first word says, and which words are left.
use Rattle.std.specs.Prelude.{ℕ, Bool, true, false, List, [], ◌∷◌, codes, Option, None, Some, if◌then◌else◌}
use Rattle.std.specs.Str.{bytes_eq}

-- what a word says of hints, if it says anything
abbrev pub said_by : List ℕ → Option Bool
said_by word =
    if bytes_eq word (codes "--hints") then Some true
    else if bytes_eq word (codes "--hints=never") then Some false
    else None

-- what the first word says of hints
abbrev pub said_first : List (List ℕ) → Option Bool
said_first [] = None
said_first (first ∷ rest) = said_by first

-- the words without a first one that says something of hints
abbrev pub words_behind : Option Bool → List ℕ → List (List ℕ) → List (List ℕ)
words_behind None first rest = first ∷ rest
words_behind (Some wanted) first rest = rest

abbrev pub words_left : List (List ℕ) → List (List ℕ)
words_left [] = []
words_left (first ∷ rest) = words_behind (said_by first) first rest
