-- What stands at a key of a table of a TOML document.
-- the document that bytes are
pub mod Documents
-- the members of a table that is being read
pub mod Sections
-- what stands at a key
pub mod Tables
-- what is wrong at a key
pub mod TableFaults
