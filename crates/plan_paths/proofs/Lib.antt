-- A zero-delay connection, as a test finds it.
pub mod Delays
-- Levels and ranks, as they are counted.
pub mod Levels
-- Zero-delay paths, and the levels that they make.
pub mod Paths
-- Zero-delay cycles.
pub mod Cycles
-- Levels and ranks where there is no zero-delay cycle.
pub mod Rising
-- Least delays are least totals of paths.
pub mod LeastTotals
-- Least delays, as they are computed.
pub mod LeastRounds
-- Connections that have different ends.
pub mod Apart
