-- Lemmas.
-- reports that were saved
pub mod Saved
-- federates' nodes
pub mod Joined
-- logs that get the report's name
pub mod Named
