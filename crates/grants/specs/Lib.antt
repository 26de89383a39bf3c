-- What a coordinator's table holds, who is eligible by it, and how often it looks at a federate.
-- how the table's out-of-memory fault is printed
pub mod Fault
-- the tags of messages on their way
pub mod Transit
-- the wiring of a federation, as data
pub mod Wiring
-- what a table holds
pub mod Records
-- how often federates are looked at
pub mod Looks
-- whom a federate hears from, and whom it reaches
pub mod Routes
-- arrivals along routes
pub mod Bounds
-- what a table keeps
pub mod Invariant
