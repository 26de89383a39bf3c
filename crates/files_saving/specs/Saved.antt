-- What becomes of files that are made, written, renamed, reserved and saved.
use Rattle.std.specs.Prelude.{◌≡◌, ℕ, List, ◌++◌, None, Some, codes}
use Rattle.files_saving.specs.Contents.{Contents, SameBut, SameButTwo}

-- there is a file of this name now that wasn't there before, with these bytes
pub record IsCreated (name bytes : List ℕ) (before now : Contents) : Type 0 where
  pub was_free : before name ≡ None
  pub bytes_are : now name ≡ Some bytes
  pub others : SameBut name before now

-- the file of this name has these bytes now
pub record IsWritten (name bytes : List ℕ) (before now : Contents) : Type 0 where
  pub bytes_are : now name ≡ Some bytes
  pub others : SameBut name before now

-- the file that had the one name has the other, which none had before
pub record IsRenamed (from to : List ℕ) (before now : Contents) : Type 0 where
  pub was_free : before to ≡ None
  pub moved : now to ≡ before from
  pub gone : now from ≡ None
  pub others : SameButTwo from to before now

-- a name is reserved for a file that is to be saved: there is no file of this name, and a temporary one now that wasn't
-- there, with these bytes
pub record IsReserved (temporary name bytes : List ℕ) (before now : Contents) : Type 0 where
  pub name_is_free : before name ≡ None
  pub created : IsCreated temporary bytes before now

-- the file of this name, which wasn't there, has these bytes, and the temporary file isn't there any more
pub record IsSaved (temporary name bytes : List ℕ) (before now : Contents) : Type 0 where
  pub was_free : before name ≡ None
  pub bytes_are : now name ≡ Some bytes
  pub gone : now temporary ≡ None
  pub others : SameButTwo temporary name before now

-- the name of the temporary file for a file of this name
abbrev pub temporary_name : List ℕ → List ℕ
temporary_name name = name ++ codes ".part"
