-- What is saved where a parameter has several values.
use Rattle.std.specs.Prelude.{◌≡◌, ℕ, zero, suc, ◌+ℤ◌, pos, ◌⊎◌, List, [], ◌∷◌, ◌++◌, Option, codes, flat_map}
use Rattle.std.specs.Fmt.{signed_decimal}
use Rattle.files_saving.specs.Contents.{Contents, KnownOf}
use Rattle.files_saving.specs.Saved.{IsCreated}
use Rattle.fedrun_files.specs.Contents.{AreBytesOf}
use Rattle.expand_source.specs.declared.part.Given.{Given}
use Rattle.expand_federation.specs.Made.{IsFederationText, IsFederationOf}
use Rattle.fedrun_expand.specs.declared.words.EachRequest.{EachRequest}

-- a parameter's value, as it is given
abbrev pub value_text : Given → List ℕ
value_text given = given.name ++ (codes "=" ++ signed_decimal given.value)

-- the same, behind others
abbrev pub spaced_value : Given → List ℕ
spaced_value given = codes " " ++ value_text given

-- the first line of a file: the values for which it is
abbrev pub comment_text : List Given → List ℕ
comment_text values = codes "#" ++ (flat_map spaced_value values ++ codes "\n")

-- the name of the file for a value, in a folder
abbrev pub file_name : List ℕ → Given → List ℕ
file_name folder value = folder ++ (codes "/" ++ (value_text value ++ codes ".toml"))

-- the value for the k-th file, counted from 0
abbrev pub value_at : EachRequest → ℕ → Given
value_at each k = record { name = each.range.name.now; value = each.range.first +ℤ pos k }

-- a text without the mark of its byte order (in UTF-8), with which it may begin
abbrev pub IsUnmarked : List ℕ → List ℕ → Type 0
IsUnmarked text rest = (rest ≡ text) ⊎ (text ≡ 239 ∷ (187 ∷ (191 ∷ rest)))

-- a file of a source for these values: they as a comment, and then what the source becomes with them. It is a federation
-- file
abbrev pub IsFileFor : List ℕ → List Given → List ℕ → Type 0
IsFileFor source values text =
    (made rest : List ℕ) × IsFederationOf source values made × IsUnmarked made rest
    × (text ≡ comment_text values ++ rest) × IsFederationText text

-- the k-th file: its name, and its text
abbrev pub IsNamedFile : List ℕ → List Given → EachRequest → ℕ → List ℕ → List ℕ → Type 0
IsNamedFile source given each k name text =
    (name ≡ file_name each.folder.now (value_at each k)) × IsFileFor source (given ++ value_at each k ∷ []) text

-- the k-th file is there now, which wasn't, and no other file changed
abbrev pub IsOneSaved : List ℕ → List Given → EachRequest → ℕ → Contents → Contents → Type 0
IsOneSaved source given each k before after =
    (name text : List ℕ) × IsNamedFile source given each k name text × IsCreated name text before after

-- the first files are there, one after the other
abbrev pub AreSaved : List ℕ → List Given → EachRequest → ℕ → Contents → Contents → Type 0
AreSaved source given each zero before after = after ≡ before
AreSaved source given each (suc k) before after =
    (between : Contents) × AreSaved source given each k before between × IsOneSaved source given each k between after

-- all files were saved of what the bytes of a file become
abbrev pub SavesFile : Option (List ℕ) → List Given → EachRequest → Option Contents → Option Contents → Type 0
SavesFile known given each before after =
    (source : List ℕ) × AreBytesOf known source
    × KnownOf before after (AreSaved source given each each.range.count)

-- the same of some file, some values and some range
abbrev pub SavesEach : (List ℕ → Option (List ℕ)) → Option Contents → Option Contents → Type 0
SavesEach contents before after =
    (name : List ℕ) × (given : List Given) × (each : EachRequest) × SavesFile (contents name) given each before after
