-- Connections between federates by number.
-- levels and ranks
pub mod Levels
-- zero-delay cycles, and the tree by which one is found
pub mod Cycles
-- least delays
pub mod Least
-- ports with two sources
pub mod Sources
