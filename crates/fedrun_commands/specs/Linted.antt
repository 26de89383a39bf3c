-- What is printed of files that are looked at, whether they are taken or not. What a file holds is said where its bytes
-- are known.
use Rattle.std.specs.Prelude.{◌≡◌, ◌≢◌, ℕ, ◌<◌, Bool, true, List, [], ◌∷◌, ◌++◌, length, Option, None, Some, IfSome, ⊤}
use Rattle.std.specs.Borrow.{Bor}
use Rattle.std.specs.Global.{Vec}
use Rattle.loadfed.specs.declared.fault.LoadFault.TheVariants.{Memory}
use Rattle.loadfed.specs.declared.federation.TheConstants.{MOST_BYTES}
use Rattle.loadfed.specs.declared.recorded.TheConstants.{MOST_INPUT_BYTES}
use Rattle.files_script.specs.declared.script.TheConstants.{MOST_BYTES as MOST_SCHEDULE_BYTES}
use Rattle.fedrun_words.specs.declared.request.LintRequest.{LintRequest}
use Rattle.fedrun_words.specs.declared.request.Request.{Request}
use Rattle.fedrun_words.specs.declared.request.Request.TheVariants.{Lint}
use Rattle.fedrun_words.specs.declared.fault.Fault.{Fault}
use Rattle.fedrun_words.specs.declared.fault.Fault.TheVariants.{CannotWrite, Load, More}
use Rattle.fedrun_files.specs.declared.named.FileFault.{FileFault}
use Rattle.fedrun_files.specs.declared.named.FileFault.TheVariants.{OverLimit}
use Rattle.fedrun_files.specs.Answers.{Answer, Answers, refused}
use Rattle.fedrun_files.specs.Contents.{Contents, AreBytesOf}
use Rattle.fedrun_files.specs.Loaded.{input_file}
use Rattle.fedrun_files.specs.Refused.{fault_of_file}
use Rattle.fedrun_lint.specs.Answered.{GivenFile}
use Rattle.fedrun_lint.specs.Full.{PrintsFullReport, BeginsFullReport}
use Rattle.fedrun_commands.specs.declared.fault.NodeFault.{NodeFault}
use Rattle.fedrun_commands.specs.declared.fault.NodeFault.TheVariants.{NotTaken}

-- the bytes of a file as they are looked at: none where it has more than such a file may have
abbrev pub AreLookedAt : (most : ℕ) → Option (List ℕ) → Option (List ℕ) → Type 0
AreLookedAt most known (Some bytes) = AreBytesOf known bytes
AreLookedAt most known None = IfSome known (λ there. most < length there)

-- the bytes of a file, where they were read
abbrev pub known_bytes : Option (Vec ℕ) → Option (List ℕ)
known_bytes None = None
known_bytes (Some bytes) = Some bytes.items

-- a file by its name, with the bytes that were read
abbrev pub file_of : List ℕ → Option (Vec ℕ) → GivenFile
file_of name bytes = record { name = name; bytes = known_bytes bytes }

-- one answer more came
abbrev pub OneAnswer : Option (List Answer) → Option (List Answer) → Type 0
OneAnswer before after = (answer : Answer) × Answers before after (answer ∷ [])

-- answers came, or none
abbrev pub SomeAnswers : Option (List Answer) → Option (List Answer) → Type 0
SomeAnswers before after = (answers : List Answer) × Answers before after answers

-- the schedule as it is looked at, if one is asked for, and else none
abbrev pub IsAskedSchedule : Contents → Option (Bor (List ℕ)) → Option GivenFile → Type 0
IsAskedSchedule contents None None = ⊤
IsAskedSchedule contents None (Some file) = ⊥
IsAskedSchedule contents (Some name) None = ⊥
IsAskedSchedule contents (Some name) (Some file) =
    (file.name ≡ name.now) × AreLookedAt MOST_SCHEDULE_BYTES (contents name.now) file.bytes

-- the files that are asked for as they are looked at
pub record AreFiles (contents : Contents) (asked : LintRequest) (first second : GivenFile)
    (third : Option GivenFile) : Type 0 where
  pub first_name : first.name ≡ asked.federation.now
  pub second_name : second.name ≡ asked.inputs.now
  pub first_bytes : AreLookedAt MOST_BYTES (contents asked.federation.now) first.bytes
  pub second_bytes : AreLookedAt MOST_INPUT_BYTES (input_file contents asked.inputs.now) second.bytes
  pub third_is : IsAskedSchedule contents asked.schedule third

-- all that is wrong or odd in the files was printed, and something is wrong or not
pub record PrintsLint (contents : Contents) (asked : LintRequest) (is_wrong : Bool)
    (before after : Option (List ℕ)) : Type 0 where
  pub first : GivenFile
  pub second : GivenFile
  pub third : Option GivenFile
  pub files : AreFiles contents asked first second third
  pub prints : PrintsFullReport first second third is_wrong before after

-- this request is to look at files, and what is wrong in them was printed
abbrev pub TellsWrong : Contents → Request → Option (List ℕ) → Option (List ℕ) → Type 0
TellsWrong contents (Lint asked) before after = PrintsLint contents asked true before after
TellsWrong contents request before after = ⊥

-- some request is so
abbrev pub HasToldWrong : Contents → Option (List ℕ) → Option (List ℕ) → Type 0
HasToldWrong contents before after = (request : Request) × TellsWrong contents request before after

-- the report was begun, and can't be written to its end
pub record BeginsLint (contents : Contents) (asked : LintRequest) (before after : Option (List ℕ)) : Type 0 where
  pub first : GivenFile
  pub second : GivenFile
  pub third : Option GivenFile
  pub files : AreFiles contents asked first second third
  pub begins : BeginsFullReport first second third before after

-- why a report isn't printed, or what it comes to: there was no memory; something is wrong, and all of it was printed;
-- or it can't be written
pub data IsReportFault (first second : GivenFile) (third : Option GivenFile) (before after : Option (List ℕ))
    (fault : Fault NodeFault) : Type 0 where
  out_of_memory : fault ≡ Load Memory → IsReportFault first second third before after fault
  wrong : fault ≡ More NotTaken → PrintsFullReport first second third true before after
      → IsReportFault first second third before after fault
  refused_write : fault ≡ CannotWrite → BeginsFullReport first second third before after
      → IsReportFault first second third before after fault

-- the file of this name can't be read: that was answered about it, and not that it is too long, as such a file is looked
-- at
pub record IsFileUnread (name : Bor (List ℕ)) (answered : List Answer → Type 0) (fault : Fault NodeFault) : Type 0 where
  pub why : FileFault
  pub not_long : why ≢ OverLimit
  pub fault_is : fault ≡ fault_of_file name why
  pub answer : answered (refused name.now why ∷ [])

-- the same of a schedule, if one is asked for
abbrev pub IsScheduleUnread : Option (Bor (List ℕ)) → (List Answer → Type 0) → Fault NodeFault → Type 0
IsScheduleUnread None answered fault = ⊥
IsScheduleUnread (Some name) answered fault = IsFileUnread name answered fault

-- why looking at files isn't done, or what it comes to: one can't be read, and that was answered last; there was no
-- memory; something is wrong, and all of it was printed; or it can't be written
pub data IsLintFault (contents : Contents) (answered : List Answer → Type 0) (before after : Option (List ℕ))
    (asked : LintRequest) (fault : Fault NodeFault) : Type 0 where
  federation_unread : IsFileUnread asked.federation answered fault
      → IsLintFault contents answered before after asked fault
  inputs_unread : (earlier : Answer) → IsFileUnread asked.inputs (λ last. answered (earlier ∷ last)) fault
      → IsLintFault contents answered before after asked fault
  schedule_unread : (earlier : List Answer) → IsScheduleUnread asked.schedule (λ last. answered (earlier ++ last)) fault
      → IsLintFault contents answered before after asked fault
  no_memory : fault ≡ Load Memory → after ≡ before → IsLintFault contents answered before after asked fault
  not_taken : fault ≡ More NotTaken → PrintsLint contents asked true before after
      → IsLintFault contents answered before after asked fault
  unwritten : fault ≡ CannotWrite → BeginsLint contents asked before after
      → IsLintFault contents answered before after asked fault
