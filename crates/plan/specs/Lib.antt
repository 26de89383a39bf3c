-- Federations: what is declared, what is legal, and what it means in numbers.
-- the faults of a draft: their numbers and texts
pub mod PlanFaults
-- those of recorded inputs
pub mod InputFaults
-- names in a list
pub mod Naming
-- connections by number, and levels and ranks
pub mod Federation
-- least delays
pub mod Least
-- legal federations
pub mod Legal
-- startups, firings of timers and recorded inputs
pub mod External
-- the occurrences of physical actions that recorded inputs are
pub mod Occurrences
-- what a plan keeps
pub mod Planned
-- what each fault says of a draft
pub mod Faults
