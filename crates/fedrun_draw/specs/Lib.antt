-- Which pictures are drawn, and why one isn't.
-- how faults are printed
pub mod Faults
-- which steps of a schedule are drawn
pub mod Excerpts
-- which schedules are drawn, and which aren't
pub mod Drawn
