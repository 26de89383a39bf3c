-- Why nothing is kept, and how it is printed.
use Rattle.std.specs.Prelude.{ℕ, List, codes}
use Rattle.files_keeping.specs.declared.keep_fault.KeepFault.{KeepFault}
use Rattle.files_keeping.specs.declared.keep_fault.KeepFault.TheVariants.{CannotOpen, Taken, CannotLock, CannotRead, CannotCut}
use Rattle.files_keeping.specs.declared.keep_fault.KeepFault.TheVariants.{CannotAppend, CannotSync, CannotSyncFolder, FailedBefore}

-- what is printed of it
abbrev pub text_of : KeepFault → List ℕ
text_of CannotOpen = codes "cannot open"
text_of Taken = codes "taken"
text_of CannotLock = codes "cannot lock"
text_of CannotRead = codes "cannot read"
text_of CannotCut = codes "cannot cut"
text_of CannotAppend = codes "cannot append"
text_of CannotSync = codes "cannot sync"
text_of CannotSyncFolder = codes "cannot sync the folder"
text_of FailedBefore = codes "failed before"
