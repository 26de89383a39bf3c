-- What a list has at a place, and one item more.
pub mod Places
-- The events of a block, and one event more or less.
pub mod BlockEvents
-- The slips of blocks, and one slip more or less.
pub mod SlipLists
-- Slips whose places are 0, 1, 2 .., and one more or less.
pub mod Numbered
-- A list to which items of another one are added, from a place on.
pub mod Appended
