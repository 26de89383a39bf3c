-- What a writer gains of a text that is printed, and why a command gives up.
-- the program's lines
pub mod Lines
-- prefixes and pieces
pub mod Pieces
-- words that are no command
pub mod Usage
-- the exit status that goes with each fault, and how it is printed
pub mod Faults
