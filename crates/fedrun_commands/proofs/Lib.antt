-- Lemmas.
-- faults of a schedule where other files were asked for before
pub mod InTurn
-- what a run printed stays printed
pub mod Runs
-- what was printed of a schedule or drawn stays printed
pub mod Kept
-- what was printed of a schedule, once it is sent on
pub mod SentOn
-- where nothing was printed, or what is wrong
pub mod Reported
-- files that are looked at, one after the other
pub mod LookedAt
-- report files, one after the other
pub mod TakenInTurn
-- what is gained of a fault's line
pub mod Lines
