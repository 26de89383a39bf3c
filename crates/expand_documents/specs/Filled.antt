-- A value of a TOML document with its braces filled.
use Rattle.std.specs.Prelude.{◌≡◌, ℕ, ℤ, ◌⊎◌, Bool, true, false, ◌&&◌, ◌==◌, List, length}
use Rattle.expand_expressions.specs.declared.known.NamedOperand.{NamedOperand}
use Rattle.expand_source.specs.Expansion.{HasValue, IsPlain, IsNextHole, IsFilled}
use Rattle.toml.specs.Data.{Data, string, integer, float, boolean, datetime, array, table, Items, no_items, item}
use Rattle.toml.specs.Data.{Members, no_members, member}

-- nothing stands on either side of the braces
abbrev pub is_whole : List ℕ → List ℕ → Bool
is_whole front rest = (length front == 0) && (length rest == 0)

-- a text with its braces filled: where nothing else stands in it, it is the number
abbrev pub IsTextFilled : List NamedOperand → List ℕ → Data → Type 0
IsTextFilled names text made =
    (IsPlain text × (made ≡ string text))
    ⊎ ((front expression rest : List ℕ) × IsNextHole text front expression rest
    × (((is_whole front rest ≡ true) × ((n : ℤ) × HasValue names expression n × (made ≡ integer n)))
    ⊎ ((is_whole front rest ≡ false) × ((filled : List ℕ) × IsFilled names text filled × (made ≡ string filled)))))

-- a value with each text in it filled, and nothing else changed
abbrev mutual
  pub IsValueFilled : List NamedOperand → Data → Data → Type 0
  IsValueFilled names (string text) made = IsTextFilled names text made
  IsValueFilled names (integer n) made = made ≡ integer n
  IsValueFilled names (float x) made = made ≡ float x
  IsValueFilled names (boolean b) made = made ≡ boolean b
  IsValueFilled names (datetime t) made = made ≡ datetime t
  IsValueFilled names (array items) made = (filled : Items) × AreItemsFilled names items filled × (made ≡ array filled)
  IsValueFilled names (table members) made =
      (filled : Members) × AreMembersFilled names members filled × (made ≡ table filled)

  pub AreItemsFilled : List NamedOperand → Items → Items → Type 0
  AreItemsFilled names no_items made = made ≡ no_items
  AreItemsFilled names (item value items) made =
      (first : Data) × (rest : Items) × IsValueFilled names value first × AreItemsFilled names items rest
      × (made ≡ item first rest)

  pub AreMembersFilled : List NamedOperand → Members → Members → Type 0
  AreMembersFilled names no_members made = made ≡ no_members
  AreMembersFilled names (member key value members) made =
      (first : Data) × (rest : Members) × IsValueFilled names value first × AreMembersFilled names members rest
      × (made ≡ member key first rest)
