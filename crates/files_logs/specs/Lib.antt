-- Logs: what a node's log says, how it looks as bytes, how bytes are read, and what is wrong with those that aren't
-- taken. Sums of bytes.
pub mod Sums
-- What a block says: events, and that the run is finished.
pub mod Items
-- Blocks behind one another, each with a sum that depends on all before it.
pub mod Blocks
-- A whole log: its head, its blocks, and its end.
pub mod Log
-- What stands at the front of bytes behind such a sum.
pub mod Front
-- What bytes are read as, and why they aren't.
pub mod Reading
-- What the parts of reading answer.
pub mod Parts
-- What is written, and why it isn't.
pub mod Writing
-- Logs that are cut anywhere, and tails that a write left.
pub mod Cuts
-- How faults are printed.
pub mod Faults
