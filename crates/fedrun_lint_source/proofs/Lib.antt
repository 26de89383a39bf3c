-- Proofs about looking at a source.
-- a report at the lines of a source
pub mod Moved
-- what was printed, where nothing is wrong
pub mod Outcome
