-- Blocks of bytes behind one another. A block is a size, a check of it, what it says, and a sum. The sum depends on the
-- one before it, and so on all that stands before it.
use Rattle.std.specs.Prelude.{ℕ, ◌<◌, ◌≤◌, Bool, ◌||◌, false, List, [], ◌∷◌, ◌++◌, length}
use Rattle.std.specs.List.{AllByRecursion}
use Rattle.byteorder.specs.Endian.{big_bytes}
use Rattle.node.specs.declared.event.Event.{Event}
use Rattle.files_logs.specs.declared.layout.TheConstants.{MOST_SAID}
use Rattle.files_logs.specs.declared.item.Item.{Item}
use Rattle.files_logs.specs.Sums.{size_check, block_sum}
use Rattle.files_logs.specs.Items.{items_bytes, IsItem, events_of, is_told_in}

-- how many bytes a block says, and the check of that
abbrev pub size_bytes : ℕ → ℕ → List ℕ
size_bytes before size = big_bytes 4 size ++ big_bytes 4 (size_check before size)

-- the block that says this, behind this sum
abbrev pub block_bytes : ℕ → List ℕ → List ℕ
block_bytes before said = size_bytes before (length said) ++ (said ++ big_bytes 8 (block_sum before said))

-- it says something, and not too much
pub record IsSayable (said : List ℕ) : Type 0 where
  pub some : 0 < length said
  pub not_too_long : length said ≤ MOST_SAID

-- a block says this
pub record IsBlock (items : List Item) : Type 0 where
  pub sayable : IsSayable (items_bytes items)
  pub each : AllByRecursion IsItem items

-- blocks that say this, behind this sum
abbrev pub blocks_bytes : ℕ → List (List Item) → List ℕ
blocks_bytes before [] = []
blocks_bytes before (items ∷ blocks) =
    block_bytes before (items_bytes items) ++ blocks_bytes (block_sum before (items_bytes items)) blocks

-- the sum behind all of them
abbrev pub sum_behind : ℕ → List (List Item) → ℕ
sum_behind before [] = before
sum_behind before (items ∷ blocks) = sum_behind (block_sum before (items_bytes items)) blocks

-- the events in all of them
abbrev pub events_in : List (List Item) → List Event
events_in [] = []
events_in (items ∷ blocks) = events_of items ++ events_in blocks

-- whether one of them says that the run is finished
abbrev pub is_told_by : List (List Item) → Bool
is_told_by [] = false
is_told_by (items ∷ blocks) = is_told_in items || is_told_by blocks
