-- Durations as text: digits, any number of spaces, and a unit; or `0` alone.
use Rattle.std.specs.Prelude.{◌≡◌, ℕ, ◌*◌, ◌<◌, ◌⊎◌, List, ◌++◌, length, IsTrue, codes, replicate}
use Rattle.std.specs.Str.{all_ascii_digits}
use Rattle.std.specs.Str.Parse.{digits_value}

-- a unit's names, with its length in nanoseconds
abbrev pub IsUnit : List ℕ → ℕ → Type 0
IsUnit name nanoseconds =
    (((name ≡ codes "ns") ⊎ (name ≡ codes "nsec")) × (nanoseconds ≡ 1))
    ⊎ ((((name ≡ codes "us") ⊎ (name ≡ codes "usec")) × (nanoseconds ≡ 1_000))
    ⊎ ((((name ≡ codes "ms") ⊎ (name ≡ codes "msec")) × (nanoseconds ≡ 1_000_000))
    ⊎ (((name ≡ codes "s") ⊎ (name ≡ codes "sec")) × (nanoseconds ≡ 1_000_000_000))))

-- the text is these digits, any number of spaces, and a name of this unit
pub record HasParts (text digits : List ℕ) (unit : ℕ) : Type 0 where
  pub spaces : ℕ
  pub name : List ℕ
  pub text_is : text ≡ digits ++ (replicate spaces 32 ++ name)
  pub some_digits : 0 < length digits
  pub digits_are : IsTrue (all_ascii_digits digits)
  pub unit_is : IsUnit name unit

-- a number and the unit that it counts
pub record SpellsWithUnit (text : List ℕ) (value : ℕ) : Type 0 where
  pub digits : List ℕ
  pub unit : ℕ
  pub parts : HasParts text digits unit
  pub value_is : value ≡ digits_value 10 digits * unit

-- the text is a duration of this many nanoseconds
abbrev pub Spells : List ℕ → ℕ → Type 0
Spells text value = ((text ≡ codes "0") × (value ≡ 0)) ⊎ SpellsWithUnit text value
