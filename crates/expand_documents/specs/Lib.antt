-- What a source means by its tables.
-- the members of a table
pub mod Entries
-- a value with its braces filled
pub mod Filled
-- what names stand for in a copy
pub mod Naming
-- the document that a source's document becomes
pub mod Documents
