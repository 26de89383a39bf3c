-- Recorded steps.
-- what a replay of them prints
pub mod PlayedAgain
