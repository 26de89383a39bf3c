-- The programs of reactors.
-- faults of a program: their numbers and texts
pub mod ProgramFaults
-- what a reactor has and does
pub mod Behaviour
-- tokens and whole numbers
pub mod Tokens
-- how body lines are written, with names
pub mod Grammar
-- what those names stand for
pub mod Resolution
-- which program texts spell, and which fault stands in them
pub mod Spelled
-- what reading one line answers
pub mod Reading
