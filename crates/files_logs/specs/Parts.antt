-- What the parts of reading answer.
use Rattle.std.specs.Prelude.{◌≡◌, ◌≢◌, ◌<◌, ◌≤◌, ℕ, Bool, true, false, List, ◌++◌, length, take, drop, Err}
use Rattle.std.specs.List.{AllByRecursion}
use Rattle.sha2.specs.Sha256.{sha256}
use Rattle.node.specs.declared.event.Event.{Event}
use Rattle.files_reports.specs.Reading.{event_part}
use Rattle.files_logs.specs.declared.layout.TheConstants.{HEAD_SIZE}
use Rattle.files_logs.specs.declared.blocks.BlocksEnd.{BlocksEnd}
use Rattle.files_logs.specs.declared.front.Stop.{Stop}
use Rattle.files_logs.specs.declared.front.Stop.TheVariants.{Torn, Ending, Damaged}
use Rattle.files_logs.specs.declared.item.Item.{Item}
use Rattle.files_logs.specs.declared.log_fault.LogFault.{LogFault}
use Rattle.files_logs.specs.declared.log_fault.LogFault.TheVariants as faults
use Rattle.files_logs.specs.Items.{item_part, items_bytes, IsItem, events_of, is_told_in}
use Rattle.files_logs.specs.Blocks.{size_bytes, IsBlock, blocks_bytes, sum_behind, events_in, is_told_by}
use Rattle.files_logs.specs.Front.{whole, torn, ending, damaged, front_behind, front_of}
use Rattle.files_logs.specs.Reading.{IsNamed, IsContentFault}

-- why no whole block stands at the front of bytes behind a sum
abbrev pub IsStop : ℕ → List ℕ → Stop → Type 0
IsStop before bytes Torn = front_of before bytes ≡ torn
IsStop before bytes Damaged = front_of before bytes ≡ damaged
IsStop before bytes Ending =
    (seal : List ℕ) × (front_of before bytes ≡ ending seal) × (bytes ≡ size_bytes before 0 ++ seal)

-- or behind the size of a block
abbrev pub IsStopBehind : ℕ → ℕ → List ℕ → Stop → Type 0
IsStopBehind before size bytes Torn = front_behind before size bytes ≡ torn
IsStopBehind before size bytes Damaged = front_behind before size bytes ≡ damaged
IsStopBehind before size bytes Ending = ⊥

-- why no event stands there
abbrev pub IsEventFault : List ℕ → LogFault → Type 0
IsEventFault bytes (faults.Content fault) = event_part bytes ≡ Err fault
IsEventFault bytes faults.Memory = Unit {0}
IsEventFault bytes faults.NoLog = ⊥
IsEventFault bytes faults.Damaged = ⊥
IsEventFault bytes faults.OtherFiles = ⊥
IsEventFault bytes faults.OtherNode = ⊥
IsEventFault bytes faults.OtherLog = ⊥
IsEventFault bytes faults.CutShort = ⊥

-- or no item
abbrev pub IsItemFault : List ℕ → LogFault → Type 0
IsItemFault bytes (faults.Content fault) = item_part bytes ≡ Err fault
IsItemFault bytes faults.Memory = Unit {0}
IsItemFault bytes faults.NoLog = ⊥
IsItemFault bytes faults.Damaged = ⊥
IsItemFault bytes faults.OtherFiles = ⊥
IsItemFault bytes faults.OtherNode = ⊥
IsItemFault bytes faults.OtherLog = ⊥
IsItemFault bytes faults.CutShort = ⊥

-- why what a block says isn't read
abbrev pub IsSayingFault : List ℕ → LogFault → Type 0
IsSayingFault said (faults.Content fault) = IsContentFault said fault
IsSayingFault said faults.Memory = Unit {0}
IsSayingFault said faults.NoLog = ⊥
IsSayingFault said faults.Damaged = ⊥
IsSayingFault said faults.OtherFiles = ⊥
IsSayingFault said faults.OtherNode = ⊥
IsSayingFault said faults.OtherLog = ⊥
IsSayingFault said faults.CutShort = ⊥

-- items begin what a block says; their events were added to a journal
pub record IsAdded (said : List ℕ) (old new : List Event) (told : Bool) (rest : List ℕ) : Type 0 where
  pub items : List Item
  pub each : AllByRecursion IsItem items
  pub begins : said ≡ items_bytes items ++ rest
  pub journal : new ≡ old ++ events_of items
  pub is_told : told ≡ is_told_in items

-- blocks begin the bytes behind a sum; their events were added to a journal, and this is the sum behind them
pub record AreRead (sum : ℕ) (bytes : List ℕ) (old new : List Event) (told : Bool) (last : ℕ) (rest : List ℕ)
    : Type 0 where
  pub blocks : List (List Item)
  pub each : AllByRecursion IsBlock blocks
  pub begins : bytes ≡ blocks_bytes sum blocks ++ rest
  pub journal : new ≡ old ++ events_in blocks
  pub is_told : told ≡ is_told_by blocks
  pub last_is : last ≡ sum_behind sum blocks

-- why blocks aren't read
abbrev pub IsBlocksFault : ℕ → List ℕ → LogFault → Type 0
IsBlocksFault sum bytes (faults.Content fault) =
    (blocks : List (List Item)) × (rest : List ℕ) × AllByRecursion IsBlock blocks
    × (bytes ≡ blocks_bytes sum blocks ++ rest)
    × ((said behind : List ℕ) × (front_of (sum_behind sum blocks) rest ≡ whole said behind)
    × IsContentFault said fault)
IsBlocksFault sum bytes faults.Memory = Unit {0}
IsBlocksFault sum bytes faults.NoLog = ⊥
IsBlocksFault sum bytes faults.Damaged = ⊥
IsBlocksFault sum bytes faults.OtherFiles = ⊥
IsBlocksFault sum bytes faults.OtherNode = ⊥
IsBlocksFault sum bytes faults.OtherLog = ⊥
IsBlocksFault sum bytes faults.CutShort = ⊥

-- where blocks end, whose events were added to a journal
pub record IsEnd (sum : ℕ) (bytes : List ℕ) (old new : List Event) (end : BlocksEnd) : Type 0 where
  pub rest : List ℕ
  pub are_read : AreRead sum bytes old new end.is_told end.sum rest
  pub left : end.left ≡ length rest
  pub is_stop : IsStop end.sum rest end.stop

-- what bytes without a head are
abbrev pub IsHeadless : List ℕ → LogFault → Type 0
IsHeadless bytes faults.NoLog = IsNamed bytes → length bytes ≤ HEAD_SIZE
IsHeadless bytes faults.Damaged = IsNamed bytes × (HEAD_SIZE < length bytes)
IsHeadless bytes faults.OtherFiles = ⊥
IsHeadless bytes faults.OtherNode = ⊥
IsHeadless bytes faults.OtherLog = ⊥
IsHeadless bytes (faults.Content fault) = ⊥
IsHeadless bytes faults.CutShort = ⊥
IsHeadless bytes faults.Memory = ⊥

-- whether a log has its end, whose digest stands behind so many bytes
abbrev pub IsEnding : Stop → List ℕ → ℕ → Bool → Type 0
IsEnding Torn bytes place ended = ended ≡ false
IsEnding Damaged bytes place ended = ⊥
IsEnding Ending bytes place ended = (ended ≡ true) × (drop place bytes ≡ sha256 (take place bytes))

-- or why it has none
abbrev pub IsNoEnding : Stop → List ℕ → ℕ → LogFault → Type 0
IsNoEnding Torn bytes place fault = ⊥
IsNoEnding Damaged bytes place fault = fault ≡ faults.Damaged
IsNoEnding Ending bytes place fault = (fault ≡ faults.CutShort) × (drop place bytes ≢ sha256 (take place bytes))
