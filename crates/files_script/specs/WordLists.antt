-- The words of a line as they are read.
use Rattle.std.specs.Prelude.{ℕ, List, [], ◌∷◌}
use Rattle.files_script.specs.declared.words.Words.{Words}
use Rattle.files_script.specs.declared.words.Words.TheVariants.{One, Two, Three, Four}

-- one to four words, in order
abbrev pub listed : Words → List (List ℕ)
listed (One first) = first.now ∷ []
listed (Two first second) = first.now ∷ second.now ∷ []
listed (Three first second third) = first.now ∷ second.now ∷ third.now ∷ []
listed (Four first second third fourth) = first.now ∷ second.now ∷ third.now ∷ fourth.now ∷ []
