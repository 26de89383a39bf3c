-- The events that a node makes by itself, in turn.
pub mod Turns
-- What a block keeps of a batch.
pub mod Within
-- The slips of blocks.
pub mod Slips
-- Slips whose places are 0, 1, 2 ..
pub mod Numbered
-- Blocks, and how many slips they have.
pub mod Counted
