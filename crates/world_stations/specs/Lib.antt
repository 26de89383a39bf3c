-- A world, and its steps.
pub mod World
-- What was taken of each direction.
pub mod Taken
-- Who kept its state, and when a world is stuck.
pub mod Kept
-- The world of a federation.
pub mod Federation
-- The stations of a federation, as they are made.
pub mod Initial
-- How its refusal is printed.
pub mod Numbers
-- How many frames a step sends, and the lists of frames with their memory.
pub mod Room
-- The steps that were made, as they are kept.
pub mod MadeSteps
-- What every world keeps, and one of which nothing was asked.
pub mod Invariant
-- Links whose signals are all acknowledged.
pub mod Acknowledged
