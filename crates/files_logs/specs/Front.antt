-- What stands at the front of bytes behind a sum. A block is written at once, and nothing behind it before it is kept.
-- So only what was written last can be spoilt by a crash: bytes that no block begins are such a tail, if nothing stands
-- behind what it may have been.
use Rattle.std.specs.Prelude.{ℕ, ◌+◌, nat_lt, ◌==◌, ◌&&◌, ◌||◌, not, Bool, false, if◌then◌else◌, List, [], ◌∷◌, length}
use Rattle.std.specs.Prelude.{take, drop}
use Rattle.byteorder.specs.Endian.{big_number}
use Rattle.files_logs.specs.declared.layout.TheConstants.{SIZE_SIZE, BEGIN_SIZE, MOST_SAID, LONGEST_BLOCK, SUM_SIZE}
use Rattle.files_logs.specs.declared.layout.TheConstants.{DIGEST_SIZE}
use Rattle.files_logs.specs.Sums.{size_check, block_sum}

pub data Front : Type 0 where
  -- a block that says this, and other bytes behind it
  whole : (said rest : List ℕ) → Front
  -- nothing, or what a write of a block or of the end left that didn't end
  torn : Front
  -- the size 0, with these bytes behind it, enough for a digest
  ending : (seal : List ℕ) → Front
  -- something else: what was written before the last block isn't as it was
  damaged : Front

-- the size that a block may have, with its check
unfoldable pub is_size : ℕ → List ℕ → Bool
is_size before bytes =
    not (nat_lt MOST_SAID (big_number 4 bytes))
    && (big_number 4 (drop 4 bytes) == size_check before (big_number 4 bytes))

-- first a sum, and behind it a size with its check: there a block ends, and another one begins, or the end
unfoldable pub begins_block : List ℕ → Bool
begins_block bytes =
    not (nat_lt (length bytes) BEGIN_SIZE) && is_size (big_number SUM_SIZE bytes) (drop SUM_SIZE bytes)

-- somewhere among these bytes
abbrev pub has_block : List ℕ → Bool
has_block [] = false
has_block (byte ∷ bytes) = begins_block (byte ∷ bytes) || has_block bytes

-- what begins with no size. It was kept before it was spoilt, where it is more than a block may have, or where a block
-- ends in it behind which another one begins, or the end
unfoldable pub unsized : List ℕ → Front
unsized bytes =
    if nat_lt LONGEST_BLOCK (length bytes) then damaged
    else if has_block (drop SIZE_SIZE bytes) then damaged
    else torn

-- behind the size of a block
unfoldable pub front_behind : ℕ → ℕ → List ℕ → Front
front_behind before size bytes =
    if nat_lt (length bytes) (size + SUM_SIZE) then torn
    else if big_number 8 (drop size bytes) == block_sum before (take size bytes)
    then whole (take size bytes) (drop (size + SUM_SIZE) bytes)
    else if length bytes == size + SUM_SIZE then torn else damaged

-- behind the size 0
unfoldable pub end_behind : List ℕ → Front
end_behind bytes = if nat_lt (length bytes) DIGEST_SIZE then torn else ending bytes

unfoldable pub front_of : ℕ → List ℕ → Front
front_of before bytes =
    if nat_lt (length bytes) SIZE_SIZE then torn
    else if not (is_size before bytes) then unsized bytes
    else if big_number 4 bytes == 0 then end_behind (drop SIZE_SIZE bytes)
    else front_behind before (big_number 4 bytes) (drop SIZE_SIZE bytes)
