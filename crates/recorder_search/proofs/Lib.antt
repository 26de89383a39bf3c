-- One step more at the end of a list of steps.
mod Pushed
-- Reading goes on by one event, and by one journal.
mod Onwards
-- Journals that grew: what was read of them stays read.
pub mod Grown
-- What a search may answer, where it has read as far as it could.
pub mod Findings
