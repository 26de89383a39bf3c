-- Report files: what a node says, how it looks as bytes, how bytes are read, and what is wrong with those that aren't
-- taken. What a node says that it did in a run.
pub mod Said
-- How that looks as bytes.
pub mod Spelling
-- How it is read, from left to right.
pub mod Reading
-- A whole file: what stands before that, and the digest behind it.
pub mod File
-- What an audit takes of it.
pub mod Taken
-- How faults are printed.
pub mod Faults
-- A report worked by hand.
pub mod Example
