-- The connections by which a federate sends, and what goes out over them.
pub mod Outlets
-- Recorded inputs, one after the other.
pub mod RecordedInputs
-- A turn that is prepared is the turn of the definition.
pub mod Turns
-- What a node's call comes to, by its step.
pub mod Calls
-- A federate as it is made is the initial one.
pub mod Initial
