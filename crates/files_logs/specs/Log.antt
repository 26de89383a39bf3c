-- A log: its head, the blocks behind it, and its end, where the node ended. All numbers have their highest byte first.
use Rattle.std.specs.Prelude.{◌≡◌, ℕ, ◌^◌, ◌<◌, Bool, List, ◌++◌, length, codes}
use Rattle.std.specs.List.{AllByRecursion}
use Rattle.byteorder.specs.Endian.{big_bytes}
use Rattle.sha2.specs.Sha256.{sha256}
use Rattle.files_logs.specs.declared.layout.TheConstants.{DIGEST_SIZE}
use Rattle.files_logs.specs.declared.item.Item.{Item}
use Rattle.files_logs.specs.declared.log_head.LogHead.{LogHead}
use Rattle.files_logs.specs.declared.log.Log.{Log}
use Rattle.files_logs.specs.Sums.{sum_of}
use Rattle.files_logs.specs.Blocks.{size_bytes, IsBlock, blocks_bytes, sum_behind, events_in, is_told_by}

-- the name of the format, with its version
abbrev pub format : List ℕ
format = codes "fedrep 2"

-- a head before its sum: the format, the digests of the run's two files, who writes the log, and by which rules
abbrev pub summed_head : LogHead → List ℕ
summed_head head =
    format ++ (head.files.federation ++ (head.files.inputs ++ (big_bytes 2 head.who ++ big_bytes 2 head.rules)))

-- the sum that the first block stands behind
abbrev pub head_sum : LogHead → ℕ
head_sum head = sum_of (summed_head head)

abbrev pub head_bytes : LogHead → List ℕ
head_bytes head = summed_head head ++ big_bytes 8 (head_sum head)

-- what has such a head
pub record IsHead (head : LogHead) : Type 0 where
  pub federation : length head.files.federation ≡ DIGEST_SIZE
  pub inputs : length head.files.inputs ≡ DIGEST_SIZE
  pub who : head.who < 2 ^ 16
  pub rules : head.rules < 2 ^ 16

-- the log with this head in which blocks say this
abbrev pub log_bytes : LogHead → List (List Item) → List ℕ
log_bytes head blocks = head_bytes head ++ blocks_bytes (head_sum head) blocks

abbrev pub last_sum : LogHead → List (List Item) → ℕ
last_sum head blocks = sum_behind (head_sum head) blocks

-- the end behind some bytes and this sum: the size 0, and the digest of all before it
abbrev pub end_bytes : ℕ → List ℕ → List ℕ
end_bytes before all = size_bytes before 0 ++ sha256 (all ++ size_bytes before 0)

-- the same log with its end
abbrev pub ended_bytes : LogHead → List (List Item) → List ℕ
ended_bytes head blocks = log_bytes head blocks ++ end_bytes (last_sum head blocks) (log_bytes head blocks)

-- what can be written
pub record IsLog (head : LogHead) (blocks : List (List Item)) : Type 0 where
  pub is_head : IsHead head
  pub are_blocks : AllByRecursion IsBlock blocks

-- what it says, where so many bytes of it are whole
abbrev pub log_of : LogHead → List (List Item) → ℕ → Bool → Log
log_of head blocks whole ended = record {
  who = head.who;
  journal = events_in blocks;
  is_told = is_told_by blocks;
  is_ended = ended;
  whole = whole;
  sum = last_sum head blocks;
}
