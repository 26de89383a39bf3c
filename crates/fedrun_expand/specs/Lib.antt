-- The command `expand`.
-- the exit status of each fault
pub mod Faults
-- what is printed
pub mod Printed
-- what is saved where a parameter has several values
pub mod Saved
