-- A log on a disk, and what it keeps.
use Rattle.std.specs.Prelude.{◌≡◌, ℕ, ◌-◌, ◌^◌, min, Bool, true, false, IsTrue, List, length}
use Rattle.files_keeping.specs.Disk.{IsFrontOf, LeavesJust, IsReady}
use Rattle.files_keeping.specs.declared.standing.Standing.{Standing}

-- a device, and how many of its file's bytes are kept
pub record Log (D : Type 0) : Type 0 where
  pub device : D
  pub kept : ℕ

-- all that is there was synced, and nothing else may be left
pub record IsSettled {D : Type 0} (seen synced : D → List ℕ) (Leaves : D → List ℕ → Type 0) (device : D) : Type 0 where
  pub all : seen device ≡ synced device
  pub only : LeavesJust (synced device) (Leaves device)

-- how many bytes these are, as far as 64 bits tell
abbrev pub count_of : List ℕ → ℕ
count_of bytes = min (length bytes) (2 ^ 64 - 1)

-- a file that a log can be kept in: locked, its name on the disk, settled
pub record IsOpen {D : Type 0} (known : Bool) (seen synced : D → List ℕ) (Leaves : D → List ℕ → Type 0) (standing : D → Standing) (device : D) : Type 0 where
  pub ready : IsReady (standing device)
  pub named : (standing device).is_named ≡ true
  pub settled : IsTrue known → IsSettled seen synced Leaves device

-- what was synced begins each file that may be left; and unless a call failed, the log can be kept on
pub record IsKept {D : Type 0} (known : Bool) (seen synced : D → List ℕ) (Leaves : D → List ℕ → Type 0) (standing : D → Standing) (log : Log D) : Type 0 where
  pub count : IsTrue known → log.kept ≡ count_of (synced log.device)
  pub front : IsTrue known → (left : List ℕ) → Leaves log.device left → IsFrontOf (synced log.device) left
  pub open_or_failed : (standing log.device).has_failed ≡ false → IsOpen known seen synced Leaves standing log.device
