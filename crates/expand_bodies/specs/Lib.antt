-- Bodies.
-- what a body does
pub mod Body
-- a body as body lines
pub mod Lines
-- which form a line has
pub mod Forms
-- which body lines spell
pub mod Reading
-- how lines are printed
pub mod Printing
-- what a body becomes
pub mod Expanded
