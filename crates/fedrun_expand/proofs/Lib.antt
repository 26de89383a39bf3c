-- Proofs about the command.
-- what was printed
pub mod Outcome
-- files that are saved one after the other
pub mod Files
