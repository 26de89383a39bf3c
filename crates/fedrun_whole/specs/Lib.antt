-- What a command prints and answers.
-- the rows of the undivided program's turns
pub mod PrintedTurns
-- what is printed where all went well
pub mod Printed
-- which fault stands where not
pub mod Refused
-- the faults of a program that has no more commands
pub mod Faults
