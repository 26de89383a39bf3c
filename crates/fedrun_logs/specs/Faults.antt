-- Why a node's log isn't opened, or keeps nothing more.
use Rattle.std.specs.Prelude.{◌≡◌, ◌⊎◌, ◌<◌, ℕ, Bool, List, length, Some}
use Rattle.node.specs.declared.event.Event.{Event}
use Rattle.files_keeping.specs.declared.keep_fault.KeepFault.TheVariants.{CannotRead, CannotCut, CannotAppend}
use Rattle.files_keeping.specs.declared.keep_fault.KeepFault.TheVariants.{CannotSync, CannotSyncFolder, FailedBefore}
use Rattle.files_logs.specs.declared.layout.TheConstants.{MOST_SAID}
use Rattle.files_logs.specs.declared.log_head.LogHead.{LogHead}
use Rattle.files_logs.specs.declared.write_fault.LogWriteFault.{LogWriteFault}
use Rattle.files_logs.specs.declared.write_fault.LogWriteFault.TheVariants as unwritten
use Rattle.files_logs.specs.Items.{items_bytes, items_for}
use Rattle.files_logs.specs.Reading.{IsLogFault}
use Rattle.fedrun_logs.specs.declared.not_kept.NotKept.{NotKept}
use Rattle.fedrun_logs.specs.declared.not_kept.NotKept.TheVariants.{Disk, Log, TooLong, Memory}

-- why a block that isn't written isn't kept
abbrev pub not_written : LogWriteFault → NotKept
not_written unwritten.TooLong = TooLong
not_written unwritten.Memory = Memory

-- the disk fails as a file is settled, or its head is written
abbrev pub IsOfDisk : NotKept → Type 0
IsOfDisk (Disk fault) = (fault ≡ CannotSyncFolder) ⊎ (fault ≡ CannotCut) ⊎ (fault ≡ CannotAppend) ⊎ (fault ≡ CannotSync)
IsOfDisk (Log fault) = ⊥
IsOfDisk TooLong = ⊥
IsOfDisk Memory = ⊥

-- why nothing begins: it isn't this node's log, and no crash left it so; or the disk fails, or there is no memory
abbrev pub IsNotBegun : LogHead → List ℕ → NotKept → Type 0
IsNotBegun head bytes (Disk fault) = IsOfDisk (Disk fault)
IsNotBegun head bytes (Log fault) = IsLogFault head.files (Some head.who) head.rules bytes fault
IsNotBegun head bytes TooLong = ⊥
IsNotBegun head bytes Memory = Unit {0}

-- why these events aren't kept: the disk fails now or has failed before, they are too long, or there is no memory
abbrev pub IsUnkept : List Event → Bool → NotKept → Type 0
IsUnkept events told (Disk fault) = (fault ≡ FailedBefore) ⊎ (fault ≡ CannotAppend) ⊎ (fault ≡ CannotSync)
IsUnkept events told (Log fault) = ⊥
IsUnkept events told TooLong = MOST_SAID < length (items_bytes (items_for events told))
IsUnkept events told Memory = Unit {0}

-- why the file isn't read
abbrev pub IsUnread : NotKept → Type 0
IsUnread (Disk fault) = (fault ≡ FailedBefore) ⊎ (fault ≡ CannotRead)
IsUnread (Log fault) = ⊥
IsUnread TooLong = ⊥
IsUnread Memory = ⊥

-- why it gets no end
abbrev pub IsUnended : NotKept → Type 0
IsUnended (Disk fault) = (fault ≡ FailedBefore) ⊎ (fault ≡ CannotRead) ⊎ (fault ≡ CannotAppend) ⊎ (fault ≡ CannotSync)
IsUnended (Log fault) = ⊥
IsUnended TooLong = ⊥
IsUnended Memory = Unit {0}
