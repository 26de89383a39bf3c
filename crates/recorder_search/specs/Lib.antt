-- How a search's out-of-memory fault is printed.
pub mod Fault
-- How a step maker moves, and what it answers when an event is to be placed.
pub mod Motion
-- When a list of steps agrees with journals, and when no further event can be placed.
pub mod Journals
-- How far a search has read the journals.
pub mod Reading
