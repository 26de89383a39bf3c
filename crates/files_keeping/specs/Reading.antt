-- What a file is read as after a machine has stopped.
use Rattle.std.specs.Prelude.{◌≡◌, ◌⊎◌, ℕ, List, ◌++◌}

-- whatever is left of these bytes behind those that are kept, nothing new is read, or just what is with all of them
abbrev pub ReadsAllOrNone : {S : Type 0} → (List ℕ → List ℕ → Type 0) → (List ℕ → S) → List ℕ → List ℕ → Type 0
ReadsAllOrNone Tears read kept bytes = (tail : List ℕ) → Tears bytes tail → (read (kept ++ tail) ≡ read kept) ⊎ (read (kept ++ tail) ≡ read (kept ++ bytes))

-- this file is read as the bytes that are kept are, or as they are with these behind them
abbrev pub IsReadAs : {S : Type 0} → (List ℕ → S) → List ℕ → List ℕ → List ℕ → Type 0
IsReadAs read kept bytes left = (read left ≡ read kept) ⊎ (read left ≡ read (kept ++ bytes))
