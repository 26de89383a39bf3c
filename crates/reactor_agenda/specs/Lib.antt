-- One federate's events that are still undone, and what is put to them, taken back, asked and dropped.
-- an agenda, and what a new one holds
pub mod Agenda
-- what an agenda keeps: what was put, and of each timer the firings that are left
pub mod Invariant
-- what is present at a tag, found slot by slot
pub mod Present
