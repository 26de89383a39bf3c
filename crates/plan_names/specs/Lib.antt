-- Names.
-- names in a list
pub mod Naming
-- what a name is
pub mod Spelling
-- ports by name
pub mod Ports
