-- Why a file isn't saved, and how it is printed.
use Rattle.std.specs.Prelude.{ℕ, List, Bool, true, false, codes}
use Rattle.files_saving.specs.declared.save_fault.SaveFault.{SaveFault}
use Rattle.files_saving.specs.declared.save_fault.SaveFault.TheVariants.{Exists, CannotLook, CannotCreate, CannotWrite}
use Rattle.files_saving.specs.declared.save_fault.SaveFault.TheVariants.{CannotSync, CannotRename}

-- what is printed of it
abbrev pub text_of : SaveFault → List ℕ
text_of Exists = codes "exists already"
text_of CannotLook = codes "cannot look"
text_of CannotCreate = codes "cannot create"
text_of CannotWrite = codes "cannot write"
text_of CannotSync = codes "cannot sync"
text_of CannotRename = codes "cannot rename"

-- whether writing bytes fails so
abbrev pub is_of_writing : SaveFault → Bool
is_of_writing Exists = false
is_of_writing CannotLook = false
is_of_writing CannotCreate = false
is_of_writing CannotWrite = true
is_of_writing CannotSync = true
is_of_writing CannotRename = false
