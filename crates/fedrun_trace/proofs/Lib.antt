-- Lemmas.
-- texts that are written one after the other
pub mod Texts
-- the events of steps, one step after the other
pub mod Following
