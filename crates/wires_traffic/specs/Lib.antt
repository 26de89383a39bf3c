-- What each frame is counted as, and how many there are of a kind.
pub mod Kinds
-- Counts by kind, and sums of counts.
pub mod Sums
-- What is counted of one way between a node and one peer.
pub mod Counter
