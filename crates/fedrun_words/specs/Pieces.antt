-- Beginnings of texts, and pieces of them.
use Rattle.std.specs.Prelude.{◌≡◌, ℕ, ◌-◌, Bool, IsTrue, List, length, take, drop, Option}
use Rattle.std.specs.Io.KnownBytes.{Appends}
use Rattle.fedrun_words.specs.declared.piece.TheConstants.{PIECE}

-- known bytes grow by a prefix of a text
abbrev pub AppendsPrefix : Option (List ℕ) → Option (List ℕ) → List ℕ → Type 0
AppendsPrefix before after text = (count : ℕ) × Appends before after (take count text)

-- the same, and by all of it where that is said
pub record AppendsPrinted (is_whole : Bool) (before after : Option (List ℕ)) (text : List ℕ) : Type 0 where
  pub begun : AppendsPrefix before after text
  pub whole : IsTrue is_whole → Appends before after text

-- what was kept of a text is the piece after this many bytes, and this many of these are still to come
pub record IsPiece (from : ℕ) (text : List ℕ) (before : ℕ) (kept : List ℕ) : Type 0 where
  pub before_is : before ≡ from - length text
  pub kept_is : kept ≡ take PIECE (drop from text)
