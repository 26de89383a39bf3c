-- What files hold, by name.
pub mod Contents
-- What becomes of files that are made, written, renamed, reserved and saved.
pub mod Saved
-- Why a file isn't saved, and how it is printed.
pub mod Fault
