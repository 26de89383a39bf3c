-- The command `lint` of a source.
-- its own fault
pub mod Faults
-- what is printed
pub mod Looked
