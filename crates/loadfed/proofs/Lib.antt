-- names of each kind, together
pub mod Names
-- programs of federates, one more
pub mod Parsed
-- a table says one thing
pub mod OneReading
-- what is said has no fault
pub mod NoFault
-- arrays of tables, and the parts of a federation
pub mod TableReadings
pub mod ShapeReadings
-- a file is one federation at most, which meets no fault
pub mod Accepted
-- how faults of the plan and of programs are printed
pub mod Planned
-- an input file says one list of inputs
pub mod InputReadings
