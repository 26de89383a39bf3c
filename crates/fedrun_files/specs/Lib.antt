-- What is said of files, what they say, and which fault stands where they aren't taken.
-- the bytes of files by name
pub mod Contents
-- what was answered about them
pub mod Answers
-- standard input among the machine's files
pub mod StandardInput
-- the digests of files
pub mod Digests
-- the federation and the recorded inputs in files
pub mod Loaded
-- which fault stands where a file isn't taken
pub mod Refused
