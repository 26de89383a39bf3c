-- The line on which the program prints a text.
use Rattle.std.specs.Prelude.{◌≡◌, ℕ, List, ◌++◌, codes, Option, None, Some, IfSome}

-- the line of a text
abbrev pub line_of : List ℕ → List ℕ
line_of text = codes "fedrun: " ++ (text ++ codes "\n")

-- the line of what is displayed, where that is known
abbrev pub displayed_line : Option (List ℕ) → Option (List ℕ)
displayed_line None = None
displayed_line (Some text) = Some (line_of text)

-- a fault that stands was printed: the exit status is its own, and of its line and no other this holds, where it is
-- said how it is printed
pub record PrintsFault {Fault : Type 0} (Stands : Fault → Type 0) (status_of : Fault → ℕ)
    (printed_fault : Fault → Option (List ℕ)) (status : ℕ) (IsGained : List ℕ → Type 0) : Type 0 where
  pub fault : Fault
  pub stands : Stands fault
  pub status_is : status ≡ status_of fault
  pub line : IfSome (printed_fault fault) (λ text. IsGained (line_of text))
