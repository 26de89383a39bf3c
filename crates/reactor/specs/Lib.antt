-- What reactors do with their programs.
-- the effect of a turn, line by line
pub mod Effect
-- what is present, as a list
pub mod Entries
-- rows in flat room
pub mod Rows
-- turns and reactors
pub mod Turn
-- body lines as a turn runs them
pub mod Steps
-- which steps stand for which lines
pub mod Resolved
-- a turn that is under way
pub mod Running
