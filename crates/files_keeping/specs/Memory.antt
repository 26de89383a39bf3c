-- What a machine may leave of a file in memory, by the calls that changed it.
use Rattle.std.specs.Prelude.{◌≡◌, ◌⊎◌, ℕ, suc, ◌<◌, ◌≤◌, List, [], ◌∷◌, ◌++◌, length, false, Vec}
use Rattle.std.specs.declared.alloc.Global.{Global}
use Rattle.std.proofs.Math.Nat.{lt_irrefl, lt_of_lt_of_le, le_of_lt, lt-suc_self}
use mathlib.Core.Logic.{inl, inr}
use Rattle.files_keeping.specs.Disk.{IsFrontOf, HasTail, IsCut}
use Rattle.files_keeping.specs.declared.standing.Standing.{Standing}
use Rattle.files_keeping.specs.declared.call.Call.{Call}
use Rattle.files_keeping.specs.declared.call.Call.TheVariants.{Append, Cut, Sync}

-- a front of what was appended
abbrev pub TearsOff : List ℕ → List ℕ → Type 0
TearsOff appended tail = IsFrontOf tail appended

-- what may be left of these bytes after the calls, the newest first
abbrev pub MayLeave : List ℕ → List Call → List ℕ → Type 0
MayLeave start [] left = left ≡ start
MayLeave start (Append bytes ∷ calls) left = (was : List ℕ) × MayLeave start calls was × HasTail TearsOff was bytes.items left
MayLeave start (Cut n ∷ calls) left = (was : List ℕ) × MayLeave start calls was × IsCut n was left
MayLeave start (Sync bytes ∷ calls) left = (left ≡ bytes.items) × MayLeave start calls left

-- what may have been left at some moment since t calls were made
abbrev pub LeftSince : List ℕ → List Call → ℕ → List ℕ → Type 0
LeftSince start [] t left = (t ≤ 0) × MayLeave start [] left
LeftSince start (call ∷ calls) t left = ((t ≤ suc (length calls)) × MayLeave start (call ∷ calls) left) ⊎ LeftSince start calls t left

-- one call more: these bytes were appended
abbrev pub HasAppended : List ℕ → List Call → List Call → Type 0
HasAppended bytes old new = (v : Vec ℕ Global) × (v.items ≡ bytes) × (new ≡ old ++ Append v ∷ [])

-- one call more: these bytes were synced
abbrev pub HasSynced : List ℕ → List Call → List Call → Type 0
HasSynced bytes old new = (v : Vec ℕ Global) × (v.items ≡ bytes) × (new ≡ old ++ Sync v ∷ [])

-- nothing was asked of it
abbrev pub fresh : Standing
fresh = record { is_locked = false; is_named = false; has_failed = false }

-- this moment is one of those since an earlier one
pub now_is_one : (start : List ℕ) (calls : List Call) (t : ℕ) (left : List ℕ) → t ≤ length calls → MayLeave start calls left → LeftSince start calls t left
now_is_one start [] t left le now = (le, now)
now_is_one start (call ∷ calls) t left le now = inl (le, now)

none_later : (start : List ℕ) (calls : List Call) (t : ℕ) (left : List ℕ) → length calls < t → LeftSince start calls t left → ⊥
none_later start [] t left later since = lt_irrefl 0 (lt_of_lt_of_le later since.0)
none_later start (call ∷ calls) t left later (inl since) = lt_irrefl (suc (length calls)) (lt_of_lt_of_le later since.0)
none_later start (call ∷ calls) t left later (inr since) = none_later start calls t left (lt_of_lt_of_le (lt-suc_self (length calls)) (le_of_lt later)) since

-- since this moment there was no other
pub now_is_alone : (start : List ℕ) (calls : List Call) (left : List ℕ) → LeftSince start calls (length calls) left → MayLeave start calls left
now_is_alone start [] left since = since.1
now_is_alone start (call ∷ calls) left (inl since) = since.1
now_is_alone start (call ∷ calls) left (inr since) = absurd (none_later start calls (suc (length calls)) left (lt-suc_self (length calls)) since)
