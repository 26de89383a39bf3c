-- What the program says of its own commands.
-- what is said of each command
pub mod Tables
-- the usage of a command
pub mod Usage
-- help for those who read it
pub mod Help
-- completions for shells
pub mod Completions
-- the manual page
pub mod Manual
-- which of these is asked for
pub mod About
-- whether hints are wanted
pub mod Hints
