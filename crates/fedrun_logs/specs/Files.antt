-- A node's log in a file, and as it is opened.
use Rattle.std.specs.Prelude.{◌≡◌, ◌≤◌, ◌||◌, ℕ, Bool, false, IsTrue, List, [], ◌++◌, length, Some}
use Rattle.node.specs.declared.event.Event.{Event}
use Rattle.files_keeping.specs.Log as kept
use Rattle.files_logs.specs.declared.layout.TheConstants.{HEAD_SIZE}
use Rattle.files_logs.specs.declared.log_head.LogHead.{LogHead}
use Rattle.files_logs.specs.declared.log.Log.{Log}
use Rattle.files_logs.specs.declared.log_fault.LogFault.TheVariants.{NoLog}
use Rattle.files_logs.specs.Reading.{IsLogRead, IsWholeLog, IsLogFault}

-- a log that a device keeps, how many events it has, and the sum behind them
pub record LogFile (D : Type 0) : Type 0 where
  pub log : kept.Log D
  pub events : ℕ
  pub sum : ℕ

-- what a file with these bytes says of a node: its log; or nothing, where a crash left a log that wasn't begun
pub data IsBegun (head : LogHead) (bytes : List ℕ) (journal : List Event) (told ended : Bool) : Type 0 where
  goes_on : (log : Log) → IsLogRead head.files (Some head.who) head.rules bytes log → journal ≡ log.journal
      → told ≡ log.is_told → ended ≡ log.is_ended → IsBegun head bytes journal told ended
  begins : IsLogFault head.files (Some head.who) head.rules bytes NoLog → length bytes ≤ HEAD_SIZE → journal ≡ []
      → told ≡ false → ended ≡ false → IsBegun head bytes journal told ended

-- whatever whole log the disk had before, it has these events behind it now, and if so, that the run is finished
abbrev pub GoesOn : {D : Type 0} → Bool → (D → List ℕ) → LogFile D → LogFile D → List Event → Bool → Type 0
GoesOn known synced old new events tells = IsTrue known → (head : LogHead) (journal : List Event) (told : Bool)
    → IsWholeLog head (synced old.log.device) old.sum journal told false
    → IsWholeLog head (synced new.log.device) new.sum (journal ++ events) (told || tells) false
