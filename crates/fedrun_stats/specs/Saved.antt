-- What becomes of files where what was measured is saved.
use Rattle.std.specs.Prelude.{◌≡◌, ℕ, List, ◌++◌, codes, true, Option, None, Some, IfSome, IsSome}
use Rattle.std.specs.Fmt.{decimal}
use Rattle.files_saving.specs.Contents.{Contents, SameButTwo}
use Rattle.files_stats.specs.Stats.{is_stats_text}

-- the name of the temporary file of a command for a file of this name, by the number that the command has drawn
abbrev pub own_name : (name : List ℕ) → (drawn : ℕ) → List ℕ
own_name name drawn = name ++ (codes "." ++ (decimal drawn ++ codes ".part"))

-- where there is a file of this name, and its bytes are known, it may go: they begin as those of such a file do
abbrev pub MayGo : Option Contents → Option (List ℕ) → (name : List ℕ) → Type 0
MayGo contents bytes name =
    IfSome contents (λ held. IsSome (held name) → IfSome bytes (λ known. is_stats_text known ≡ true))

-- there is no file of this name, where that is known
abbrev pub IsFree : Option Contents → (name : List ℕ) → Type 0
IsFree contents name = IfSome contents (λ held. held name ≡ None)

-- the file of this name has these bytes, whether or not there was one before, which is gone then; and the temporary
-- file isn't there any more
pub record IsReplaced (temporary name bytes : List ℕ) (before now : Contents) : Type 0 where
  pub bytes_are : now name ≡ Some bytes
  pub gone : now temporary ≡ None
  pub others : SameButTwo temporary name before now

-- the temporary file has these bytes; one of the name may be gone
pub record IsLeft (temporary name bytes : List ℕ) (before now : Contents) : Type 0 where
  pub bytes_are : now temporary ≡ Some bytes
  pub others : SameButTwo temporary name before now
