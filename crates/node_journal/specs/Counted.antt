-- Blocks, and how many slips they have.
use Rattle.std.specs.Prelude.{◌≡◌, ℕ, List, length}
use Rattle.node_journal.specs.declared.placed_block.PlacedBlock.{PlacedBlock}
use Rattle.node_journal.specs.Slips.{AreFilled, slips_of}

-- each block has an event, and all of them together this many slips
pub record AreBlocks (blocks : List PlacedBlock) (count : ℕ) : Type 0 where
  pub filled : AreFilled blocks
  pub counted : count ≡ length (slips_of blocks)
