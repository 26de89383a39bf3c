-- What bytes are read as, and why they aren't.
use Rattle.std.specs.Prelude.{◌≡◌, ◌≢◌, ◌⊎◌, ⊤, ℕ, ◌<◌, ◌≤◌, Bool, true, false, List, ◌++◌, length}
use Rattle.std.specs.Prelude.{Option, Some, None, Err}
use Rattle.std.specs.List.{AllByRecursion}
use Rattle.sha2.specs.Sha256.{sha256}
use Rattle.node.specs.declared.event.Event.{Event}
use Rattle.files_reports.specs.declared.file_digests.FileDigests.{FileDigests}
use Rattle.files_reports.specs.declared.content_fault.ContentFault.{ContentFault}
use Rattle.files_logs.specs.declared.layout.TheConstants.{HEAD_SIZE}
use Rattle.files_logs.specs.declared.item.Item.{Item}
use Rattle.files_logs.specs.declared.log_head.LogHead.{LogHead}
use Rattle.files_logs.specs.declared.log.Log.{Log}
use Rattle.files_logs.specs.declared.log_fault.LogFault.{LogFault}
use Rattle.files_logs.specs.declared.log_fault.LogFault.TheVariants.{NoLog, Damaged, OtherFiles, OtherNode, OtherLog}
use Rattle.files_logs.specs.declared.log_fault.LogFault.TheVariants.{Content, CutShort, Memory}
use Rattle.files_logs.specs.Items.{item_part, items_bytes, IsItem}
use Rattle.files_logs.specs.Blocks.{size_bytes}
use Rattle.files_logs.specs.Log.{format, head_bytes, IsHead, log_bytes, ended_bytes, last_sum, IsLog, log_of}
use Rattle.files_logs.specs.Front.{front_of, whole, torn, ending, damaged}

-- these blocks begin the bytes behind this head, and so many bytes are behind them
pub record IsBegun (head : LogHead) (bytes : List ℕ) (blocks : List (List Item)) (rest : List ℕ) : Type 0 where
  pub is_log : IsLog head blocks
  pub begins : bytes ≡ log_bytes head blocks ++ rest

-- what is read of bytes with this head
pub data IsRead (head : LogHead) (bytes : List ℕ) (log : Log) : Type 0 where
  -- blocks, and behind them nothing or a torn tail, which is dropped
  unended : (blocks : List (List Item)) → (rest : List ℕ) → IsBegun head bytes blocks rest
      → front_of (last_sum head blocks) rest ≡ torn → log ≡ log_of head blocks (length (log_bytes head blocks)) false
      → IsRead head bytes log
  -- or blocks and the end
  ended : (blocks : List (List Item)) → IsLog head blocks → bytes ≡ ended_bytes head blocks
      → log ≡ log_of head blocks (length bytes) true → IsRead head bytes log

-- All of these bytes are a log with this head, with this sum behind its last block. This is what it says:
abbrev pub IsWholeLog : LogHead → List ℕ → ℕ → List Event → Bool → Bool → Type 0
-- which events came, whether the run is finished, and whether the node ended.
IsWholeLog head bytes sum journal told closed = IsRead head bytes (record {
  who = head.who;
  journal = journal;
  is_told = told;
  is_ended = closed;
  whole = length bytes;
  sum = sum;
})

-- whose log is asked for: this node's, or any node's
abbrev pub IsAsked : Option ℕ → ℕ → Type 0
IsAsked None who = ⊤
IsAsked (Some asked) who = who ≡ asked

-- the head that is asked for, of this node
abbrev pub head_of : FileDigests → ℕ → ℕ → LogHead
head_of files rules who = record { files = files; who = who; rules = rules }

-- what is read of bytes where such a log is asked for
pub record IsLogRead (files : FileDigests) (who : Option ℕ) (rules : ℕ) (bytes : List ℕ) (log : Log) : Type 0 where
  pub is_asked : IsAsked who log.who
  pub is_read : IsRead (head_of files rules log.who) bytes log

-- the bytes begin with this head
pub record BeginsHead (head : LogHead) (bytes : List ℕ) : Type 0 where
  pub is_head : IsHead head
  pub rest : List ℕ
  pub begins : bytes ≡ head_bytes head ++ rest

-- with no head
abbrev pub HasNoHead : List ℕ → Type 0
HasNoHead bytes = (head : LogHead) → ¬ BeginsHead head bytes

-- with the name of the format
abbrev pub IsNamed : List ℕ → Type 0
IsNamed bytes = (rest : List ℕ) × (bytes ≡ format ++ rest)

-- what a block says is no list of events: items, and then this fault, the first from the left
pub record IsContentFault (said : List ℕ) (fault : ContentFault) : Type 0 where
  pub items : List Item
  pub each : AllByRecursion IsItem items
  pub rest : List ℕ
  pub begins : said ≡ items_bytes items ++ rest
  pub some : 0 < length rest
  pub fails : item_part rest ≡ Err fault

-- what is wrong behind a head
abbrev pub IsFaultBehind : LogHead → List ℕ → LogFault → Type 0
-- behind some blocks the bytes are damaged,
IsFaultBehind head bytes Damaged =
    (blocks : List (List Item)) × (rest : List ℕ) × IsBegun head bytes blocks rest
    × (front_of (last_sum head blocks) rest ≡ damaged)
-- a block behind them has this fault,
IsFaultBehind head bytes (Content fault) =
    (blocks : List (List Item)) × (rest : List ℕ) × IsBegun head bytes blocks rest
    × ((said behind : List ℕ) × (front_of (last_sum head blocks) rest ≡ whole said behind)
    × IsContentFault said fault)
-- or an end whose digest isn't that of all before it.
IsFaultBehind head bytes CutShort =
    (blocks : List (List Item)) × (rest : List ℕ) × IsBegun head bytes blocks rest
    × ((seal : List ℕ) × (front_of (last_sum head blocks) rest ≡ ending seal)
    × (seal ≢ sha256 (log_bytes head blocks ++ size_bytes (last_sum head blocks) 0)))
-- There may be no memory.
IsFaultBehind head bytes Memory = BeginsHead head bytes
IsFaultBehind head bytes NoLog = ⊥
IsFaultBehind head bytes OtherFiles = ⊥
IsFaultBehind head bytes OtherNode = ⊥
IsFaultBehind head bytes OtherLog = ⊥

-- it stands behind a head that is asked for
pub record IsFaultOfAsked (files : FileDigests) (who : Option ℕ) (rules : ℕ) (bytes : List ℕ) (fault : LogFault)
    : Type 0 where
  pub node : ℕ
  pub is_asked : IsAsked who node
  pub is_behind : IsFaultBehind (head_of files rules node) bytes fault

-- Why bytes are read as no log of such a head, case by case:
abbrev pub IsLogFault : FileDigests → Option ℕ → ℕ → List ℕ → LogFault → Type 0
-- they have no head, and either not the format's name, or no more bytes than a head;
IsLogFault files who rules bytes NoLog = HasNoHead bytes × (IsNamed bytes → length bytes ≤ HEAD_SIZE)
-- they are more, with the format's name and no head; or damaged behind the head that is asked for;
IsLogFault files who rules bytes Damaged =
    (HasNoHead bytes × IsNamed bytes × (HEAD_SIZE < length bytes)) ⊎ IsFaultOfAsked files who rules bytes Damaged
-- their head is of other files;
IsLogFault files who rules bytes OtherFiles =
    (head : LogHead) × BeginsHead head bytes × (head.files ≢ files)
-- or of these files, and another node's;
IsLogFault files who rules bytes OtherNode =
    (head : LogHead) × BeginsHead head bytes × (head.files ≡ files) × ¬ IsAsked who head.who
-- or of these files and such a node, and of other rules;
IsLogFault files who rules bytes OtherLog =
    (head : LogHead) × BeginsHead head bytes × (head.files ≡ files) × IsAsked who head.who × (head.rules ≢ rules)
-- or it is the head that is asked for, and something is wrong behind it.
IsLogFault files who rules bytes (Content fault) = IsFaultOfAsked files who rules bytes (Content fault)
IsLogFault files who rules bytes CutShort = IsFaultOfAsked files who rules bytes CutShort
IsLogFault files who rules bytes Memory = IsFaultOfAsked files who rules bytes Memory
