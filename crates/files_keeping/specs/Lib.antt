-- What a file does on a disk between two syncs: what a machine that stops may leave of it.
pub mod Disk
-- A log on a disk, and what it keeps.
pub mod Log
-- What a file is read as after a machine has stopped.
pub mod Reading
-- What a machine may leave of a file in memory, by the calls that changed it.
pub mod Memory
-- How devices stand that are made.
pub mod Made
-- Why nothing is kept, and how it is printed.
pub mod Fault
