-- A world by what it was made from and its steps.
pub mod World
-- What holds of every world.
pub mod Faithful
-- A federate for which nothing is left to be done.
pub mod Quiet
-- What every world keeps.
pub mod Invariant
