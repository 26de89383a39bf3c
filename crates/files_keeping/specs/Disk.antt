-- What a file does on a disk between two syncs: what a machine that stops may leave of it.
use Rattle.std.specs.Prelude.{◌≡◌, ◌⊎◌, ℕ, ◌≤◌, min, Bool, true, false, List, ◌++◌, length, take, Result, MatchResult, ⊤}
use Rattle.files_keeping.specs.declared.standing.Standing.{Standing}

-- the one begins the other
abbrev pub IsFrontOf : List ℕ → List ℕ → Type 0
IsFrontOf front bytes = (rest : List ℕ) × (bytes ≡ front ++ rest)

-- behind these bytes stands what was torn off others, which were appended
abbrev pub HasTail : (List ℕ → List ℕ → Type 0) → List ℕ → List ℕ → List ℕ → Type 0
HasTail Tears bytes appended left = (tail : List ℕ) × (left ≡ bytes ++ tail) × Tears appended tail

-- a front of these bytes, which are cut to n of them: none of the first n is gone
pub record IsCut (n : ℕ) (bytes left : List ℕ) : Type 0 where
  pub front : IsFrontOf left bytes
  pub no_shorter : min n (length bytes) ≤ length left

-- each file that a stop may leave now comes of one that it might have left before
abbrev pub ComesOf : (List ℕ → List ℕ → Type 0) → (List ℕ → Type 0) → (List ℕ → Type 0) → Type 0
ComesOf Step Before Now = (left : List ℕ) → Now left → (was : List ℕ) × Before was × Step was left

-- no file may be left that might not have been before
abbrev pub LeavesNoOther : (List ℕ → Type 0) → (List ℕ → Type 0) → Type 0
LeavesNoOther Before Now = (left : List ℕ) → Now left → Before left

-- just these bytes are left
abbrev pub LeavesJust : List ℕ → (List ℕ → Type 0) → Type 0
LeavesJust bytes Now = (left : List ℕ) → Now left → left ≡ bytes

-- time passes: a stop since t leaves what it might have left by then, or what it may leave now
pub record Passes (before now : ℕ) (Past Since : ℕ → List ℕ → Type 0) (Now : List ℕ → Type 0) : Type 0 where
  pub later : before ≤ now
  pub no_other : (t : ℕ) (left : List ℕ) → t ≤ before → Since t left → Past t left ⊎ Now left
  pub all : (t : ℕ) (left : List ℕ) → t ≤ before → Past t left → Since t left

-- a stop at any moment from old to new leaves a file that is so; and for whoever looks from earlier on, one that was
-- left by then, or that is so
pub record LeavesOnly {D : Type 0} (moment : D → ℕ) (Left : D → ℕ → List ℕ → Type 0) (old new : D) (IsSo : List ℕ → Type 0) : Type 0 where
  pub later : moment old ≤ moment new
  pub each : (left : List ℕ) → Left new (moment old) left → IsSo left
  pub earlier : (t : ℕ) (left : List ℕ) → t ≤ moment old → Left new t left → Left old t left ⊎ IsSo left

-- nothing failed so far, and nobody else writes into the file
abbrev pub IsReady : Standing → Type 0
IsReady s = (s.is_locked ≡ true) × (s.has_failed ≡ false)

-- Ok leaves it as it should be, an error as one that failed
abbrev pub Stands : {T E : Type 0} → Result T E → Standing → Standing → Type 0
Stands result should now = MatchResult result (λ _. now ≡ should) (λ _. now.has_failed ≡ true)

-- nothing is said of what is left of bytes that were appended
pub nothing_said : (appended : List ℕ) → ⊤
nothing_said appended = _
