-- A node's log in a file, and as it is opened.
pub mod Files
-- Why it isn't opened, or keeps nothing more.
pub mod Faults
