-- a report agrees with the loader
pub mod Agreement
-- a report on a schedule agrees with its reader
pub mod Schedules
-- what a writer gained of a report
pub mod Gained
-- of a report on all files
pub mod FullGained
