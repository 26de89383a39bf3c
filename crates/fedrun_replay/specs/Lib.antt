-- What is printed of a world that is replayed.
-- which steps are made, and what they print
pub mod Play
-- how many closing rounds are made
pub mod Closing
-- when closing rounds are enough, and how a replay ends then
pub mod Enough
-- what is printed at the end, and all together
pub mod Replayed
-- the rows alone, as comma-separated values
pub mod AsCsv
