-- How it is printed that a run gives no desks.
pub mod Fault
-- The desks that are gathered after a run, from the shares that came back.
pub mod Gathered
