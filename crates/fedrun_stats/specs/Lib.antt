-- How it is printed that what was measured isn't saved.
pub mod Fault
-- What becomes of files where what was measured is saved.
pub mod Saved
-- What is measured of a command, by the times of its moments.
pub mod Measured
