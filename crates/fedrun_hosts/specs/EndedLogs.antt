-- A node's log on a machine of its own: as it is opened, and as it has its end and the report's name. Where it is known
-- what a log's file has, `Holds` says which bytes the file of a name held as the node began, and `synced` which of them
-- the disk keeps.
use Rattle.std.specs.Prelude.{◌≡◌, ◌⊎◌, ℕ, Bool, true, false, IsTrue, List, [], ◌++◌, Option, Some, IsSome}
use Rattle.node.specs.declared.event.Event.{Event}
use Rattle.files_saving.specs.Contents.{Contents as Saved, KnownOf, SameBut}
use Rattle.files_saving.specs.Saved.{IsRenamed, temporary_name}
use Rattle.files_reports.specs.declared.file_digests.FileDigests.{FileDigests}
use Rattle.files_logs.specs.declared.log.Log.{Log}
use Rattle.files_logs.specs.declared.log_head.LogHead.{LogHead}
use Rattle.files_logs.specs.Log.{end_bytes}
use Rattle.files_logs.specs.Reading.{IsLogRead, IsWholeLog}
use Rattle.fedrun_logs.specs.declared.opening.OpenedLog.{OpenedLog}
use Rattle.fedrun_logs.specs.Files.{LogFile, IsBegun}
use Rattle.fedrun_reports.specs.declared.rules.TheConstants.{RULES}
use Rattle.fedrun_hosts.specs.declared.logged.Begun.{Begun}
use Rattle.fedrun_hosts.specs.declared.logged.Begun.TheVariants.{Finished, GoesOn}

-- the head of a node's log, of a run of these files by this program
abbrev pub head_of : FileDigests → ℕ → LogHead
head_of digests who = record { files = digests; who = who; rules = RULES }

-- these bytes are a log with this head that has its end, and in it stands that the run is finished
pub record IsEndedLog (head : LogHead) (bytes : List ℕ) (log : Log) : Type 0 where
  pub is_read : IsLogRead head.files (Some head.who) head.rules bytes log
  pub told : log.is_told ≡ true
  pub ended : log.is_ended ≡ true

-- a file with the first bytes is of no use beside one that has the others: it has none, or the same
abbrev pub IsSpare : List ℕ → List ℕ → Type 0
IsSpare beside bytes = (beside ≡ []) ⊎ (beside ≡ bytes)

-- a file had this name before, and has these bytes; no file has changed but the one beside it, and that only where it
-- is of no use
pub record HadName (name bytes beside : List ℕ) (before now : Saved) : Type 0 where
  pub was_there : IsSome (before name)
  pub others : SameBut (temporary_name name) before now
  pub spare : IsSpare beside bytes ⊎ (now ≡ before)

-- the file of this name held a log with this head that had its end
pub record HadEnd (known : Bool) (Holds : List ℕ → List ℕ → Type 0) (head : LogHead) (name : List ℕ)
    (before after : Option Saved) (log : Log) : Type 0 where
  pub bytes : List ℕ
  pub held : IsTrue known → Holds name bytes
  pub is_ended : IsEndedLog head bytes log
  pub beside : List ℕ
  pub held_beside : IsTrue known → Holds (temporary_name name) beside
  pub named : KnownOf before after (HadName name bytes beside)

-- the file beside this name held a log with this head, or none was begun there; a log with this head has its end now,
-- and the name. Where that one said already that the run is finished, this one says just what it said
pub record GetsEnd (known : Bool) (Holds : List ℕ → List ℕ → Type 0) (head : LogHead) (name : List ℕ)
    (before after : Option Saved) (log : Log) : Type 0 where
  pub beside : List ℕ
  pub held_beside : IsTrue known → Holds (temporary_name name) beside
  pub journal : List Event
  pub told : Bool
  pub closed : Bool
  pub begun : IsBegun head beside journal told closed
  pub bytes : List ℕ
  pub is_ended : IsEndedLog head bytes log
  pub as_found : IsTrue known → told ≡ true → log.journal ≡ journal
  pub named : KnownOf before after (IsRenamed (temporary_name name) name)

-- a node's log with this head has its end, and the report's name
pub data EndsLog (known : Bool) (Holds : List ℕ → List ℕ → Type 0) (head : LogHead) (name : List ℕ)
    (before after : Option Saved) (log : Log) : Type 0 where
  had_both : HadEnd known Holds head name before after log → EndsLog known Holds head name before after log
  gets_both : GetsEnd known Holds head name before after log → EndsLog known Holds head name before after log

-- a node's log as it is opened: it says what the file beside the report's name held, or nothing, where no log was begun
-- there; and the disk keeps just that
pub record OpensLog {V : Type 0} (known : Bool) (Holds : List ℕ → List ℕ → Type 0) (synced : V → List ℕ)
    (head : LogHead) (name : List ℕ) (opened : OpenedLog V) : Type 0 where
  pub bytes : List ℕ
  pub held : IsTrue known → Holds (temporary_name name) bytes
  pub begun : IsBegun head bytes opened.journal opened.is_told opened.is_ended
  pub whole : IsTrue known → IsWholeLog head (synced opened.file.log.device) opened.file.sum opened.journal
      opened.is_told opened.is_ended

-- how a node begins that keeps a log: it was finished before, or goes on, and no file has changed
abbrev pub Begins : {V : Type 0} → Bool → (List ℕ → List ℕ → Type 0) → (V → List ℕ) → LogHead → List ℕ → Option Saved
    → Option Saved → Begun V → Type 0
Begins known Holds synced head name before after (Finished log) = HadEnd known Holds head name before after log
Begins known Holds synced head name before after (GoesOn opened) =
    OpensLog known Holds synced head name opened × (after ≡ before)

-- what the disk keeps of a log's file, with the end behind it, unless that is there
abbrev pub with_end : Bool → ℕ → List ℕ → List ℕ
with_end true sum kept = kept
with_end false sum kept = kept ++ end_bytes sum kept

-- a log's file of which the disk keeps this, and which has this sum behind it, is a log with this head that has its end
-- then, and this is what it says
abbrev pub EndsFile : Bool → LogHead → Bool → ℕ → List ℕ → Log → Type 0
EndsFile known head is_ended sum kept log =
    (bytes : List ℕ) × (IsTrue known → bytes ≡ with_end is_ended sum kept) × IsEndedLog head bytes log

-- a log that was opened so has its end and the report's name: its file is as it was opened, where it said that the run
-- is finished; else as the run left it
pub record EndsOpened {V : Type 0} (known : Bool) (synced : V → List ℕ) (head : LogHead) (name : List ℕ)
    (opened : OpenedLog V) (before after : Option Saved) (log : Log) : Type 0 where
  pub file : LogFile V
  pub as_opened : opened.is_told ≡ true → file ≡ opened.file
  pub ends : EndsFile known head opened.is_ended file.sum (synced file.log.device) log
  pub named : KnownOf before after (IsRenamed (temporary_name name) name)
