-- Proofs about sources.
-- braces in texts
pub mod Braces
-- copies of parts
pub mod Copies
