-- names parted by a dot
pub mod Dots
-- a key says one thing
pub mod OneReading
-- faults answered upward
pub mod Refusals
-- one reading of a key by another, and entries of arrays
pub mod KeyReadings
-- ports
pub mod Ports
