-- What the two files of a federation say.
-- faults: their numbers and texts
pub mod Numbers
-- what faults of the crates below are as faults of files
pub mod Errors
-- faults, as a trait names them
pub mod Refused
-- what a federation file says, table by table
pub mod Shape
-- what is wrong with its shape, and at which key
pub mod ShapeFaults
-- what is sure before programs are read
pub mod Ready
-- what a federation file's bytes are, and what stands against them
pub mod Loaded
-- what an input file says, and what stands against it
pub mod InputShape
