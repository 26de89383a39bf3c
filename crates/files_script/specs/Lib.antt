-- What a schedule file is.
-- what the words of a line mean
pub mod Words
-- words as they are read
pub mod WordLists
-- its commands, its lines, and what is wrong with it
pub mod Scripts
-- how its faults are printed
pub mod Faults
