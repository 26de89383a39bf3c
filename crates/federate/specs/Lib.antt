-- How a federate's out-of-memory fault is printed.
pub mod Fault
-- The connections by which a federate sends.
pub mod Outlets
-- What a turn makes.
pub mod Turn
-- What a federate keeps.
pub mod Invariant
-- What a signal that is accepted changes.
pub mod Change
