-- What is said of files in memory.
-- a file and no other
pub mod KnownFile
