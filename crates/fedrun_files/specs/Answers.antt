-- What files answered, by name. It is said where the answers are known.
use Rattle.std.specs.Prelude.{◌≡◌, ℕ, List, ◌++◌, Option, None, Some, Result, Ok, Err, ⊤}
use Rattle.fedrun_files.specs.declared.named.FileFault.{FileFault}

-- an answer: the file that was asked for, and why its bytes weren't given, none where they were
pub record Answer : Type 0 where
  pub name : List ℕ
  pub fault : Option FileFault

-- a file's bytes were given
abbrev pub given : List ℕ → Answer
given name = record { name = name; fault = None }

-- a file's bytes weren't given, for this reason
abbrev pub refused : List ℕ → FileFault → Answer
refused name why = record { name = name; fault = Some why }

-- the answer about a file
abbrev pub answer_of : {T : Type 0} → List ℕ → Result T FileFault → Answer
answer_of name (Ok bytes) = given name
answer_of name (Err why) = refused name why

-- known answers grow by these, oldest first
abbrev pub Answers : Option (List Answer) → Option (List Answer) → List Answer → Type 0
Answers None after added = ⊤
Answers (Some old) None added = ⊥
Answers (Some old) (Some new) added = new ≡ old ++ added
