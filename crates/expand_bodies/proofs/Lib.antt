-- truths that are multiplied and subtracted
pub mod GuardTruths
-- lines that assign none but free states
pub mod Assigned
-- effects that are the same but for free states
pub mod Related
-- what the lines of a single statement, of a condition and of a guard do
pub mod Deeds
-- the lines of a block do what the block says
pub mod Blocks
-- of an `if` with an `else` one branch runs
pub mod Branches
-- what lines are read as sets the federate's own states alone, and reads no free state
pub mod Proper
-- what was read from lines, put together
pub mod Read
-- lists that are made one element after another
pub mod Lists
-- what stands in front of a text
pub mod Fronts
-- names of scratch states, one more at a time
pub mod Unused
