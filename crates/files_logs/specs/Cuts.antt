-- Logs that are cut at any byte, and tails that a write left which didn't end.
use Rattle.std.specs.Prelude.{◌≡◌, ◌≢◌, ℕ, suc, ◌+◌, ◌-◌, ◌<◌, ◌≤◌, nat_lt, false, if◌then◌else◌, List, [], ◌∷◌}
use Rattle.std.specs.Prelude.{◌++◌, length, take, drop}
use Rattle.byteorder.specs.Endian.{big_number}
use Rattle.files_logs.specs.declared.layout.TheConstants.{HEAD_SIZE, SIZE_SIZE, LONGEST_BLOCK}
use Rattle.files_logs.specs.declared.layout.TheConstants.{MOST_SAID, SUM_SIZE, DIGEST_SIZE}
use Rattle.files_logs.specs.declared.item.Item.{Item}
use Rattle.files_logs.specs.declared.log_head.LogHead.{LogHead}
use Rattle.files_logs.specs.declared.log.Log.{Log}
use Rattle.files_logs.specs.Sums.{block_sum}
use Rattle.files_logs.specs.Items.{items_bytes}
use Rattle.files_logs.specs.Blocks.{size_bytes}
use Rattle.files_logs.specs.Log.{log_bytes, log_of}
use Rattle.files_logs.specs.Front.{is_size, has_block}

-- how many bytes the block that says this has
abbrev pub block_size : List Item → ℕ
block_size items = SIZE_SIZE + (length (items_bytes items) + SUM_SIZE)

-- how many blocks are whole within so many bytes
abbrev pub whole_within : List (List Item) → ℕ → ℕ
whole_within [] k = 0
whole_within (items ∷ blocks) k =
    if nat_lt k (block_size items) then 0 else suc (whole_within blocks (k - block_size items))

-- A tail that a crash may leave of what was written last, whatever stands in it, unless its sums fit by chance:
pub data IsTornTail (before : ℕ) (tail : List ℕ) : Type 0 where
  -- there isn't a size;
  no_size : length tail < SIZE_SIZE → IsTornTail before tail
  -- its size isn't right, it isn't longer than a block, and no block ends in it behind which another one begins;
  bad_size : is_size before tail ≡ false → length tail ≤ LONGEST_BLOCK → has_block (drop SIZE_SIZE tail) ≡ false
      → IsTornTail before tail
  -- its size is right, and it is shorter than such a block, or as long, with another sum;
  bad_block : (size : ℕ) → (rest : List ℕ) → tail ≡ size_bytes before size ++ rest → 0 < size → size ≤ MOST_SAID
      → length rest ≤ size + SUM_SIZE
      → (length rest ≡ size + SUM_SIZE → big_number SUM_SIZE (drop size rest) ≢ block_sum before (take size rest))
      → IsTornTail before tail
  -- or it is the front of an end.
  bad_end : (rest : List ℕ) → tail ≡ size_bytes before 0 ++ rest → length rest < DIGEST_SIZE
      → IsTornTail before tail

-- what is read of a log that is cut behind so many bytes: the blocks that are whole before the cut
abbrev pub front_log : LogHead → List (List Item) → ℕ → Log
front_log head blocks k =
    let front = take (whole_within blocks (k - HEAD_SIZE)) blocks in
    log_of head front (length (log_bytes head front)) false
