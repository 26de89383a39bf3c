-- Where braces stand in a text, and what is added to one.
use Rattle.std.specs.Prelude.{◌≡◌, ℕ, List, ◌∷◌, ◌++◌}
use Rattle.expand_source.specs.Expansion.{is_plain, IsPlain}
use Rattle.std.specs.Prelude.{false}

-- these texts are all of it, and the first has no brace and ends where one stands, or where the text does
abbrev pub IsPlainFront : List ℕ → List ℕ → List ℕ → Type 0
IsPlainFront text front rest =
    (text ≡ front ++ rest) × IsPlain front × ((c : ℕ) (behind : List ℕ) → rest ≡ c ∷ behind → is_plain c ≡ false)

-- a text with something of this kind added
abbrev pub Appends : List ℕ → List ℕ → (List ℕ → Type 0) → Type 0
Appends old new Is = (added : List ℕ) × (new ≡ old ++ added) × Is added
