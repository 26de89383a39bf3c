-- What files hold, by name. It is said where that is known.
use Rattle.std.specs.Prelude.{◌≡◌, ◌≢◌, ℕ, List, Option, None, Some, ⊤}

-- the bytes of each file by its name. None where there is no file
abbrev pub Contents : Type 0
Contents = List ℕ → Option (List ℕ)

-- this holds of what files held before and hold now, where that is known; and what was known before is known still
abbrev pub KnownOf : Option Contents → Option Contents → (Contents → Contents → Type 0) → Type 0
KnownOf None now Holds = ⊤
KnownOf (Some before) None Holds = ⊥
KnownOf (Some before) (Some now) Holds = Holds before now

-- all files but the one of this name are as before
abbrev pub SameBut : List ℕ → Contents → Contents → Type 0
SameBut name before now = (other : List ℕ) → other ≢ name → now other ≡ before other

-- all files but those of these two names are as before
abbrev pub SameButTwo : List ℕ → List ℕ → Contents → Contents → Type 0
SameButTwo first second before now = (other : List ℕ) → other ≢ first → other ≢ second → now other ≡ before other
