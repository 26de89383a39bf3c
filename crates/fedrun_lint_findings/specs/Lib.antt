-- How a file's faults are printed, and what is odd.
-- what is odd, in words
pub mod Oddities
-- the lines
pub mod Printed
