-- Tags in transit, and the ordered set that holds them.
pub mod Transit
-- Arrivals along lists of routes are the bounds.
pub mod Arrivals
-- A tag before the least arrival is before each of them.
pub mod Passing
-- A filter, one connection more.
pub mod Filtered
-- Numbers that pass a test: listed, and counted.
pub mod Numbered
-- Whether a connection leads from one federate to another.
pub mod Leading
-- Who is eligible: by the bound, and whom a change leaves alone.
pub mod Eligible
-- The wiring of a plan is sound.
pub mod Plans
-- The routes of each federate.
pub mod Routed
-- Flags that are set one after the other.
pub mod Flags
-- A table after each call.
pub mod Tables
-- What a change of one record leaves.
pub mod Changes
