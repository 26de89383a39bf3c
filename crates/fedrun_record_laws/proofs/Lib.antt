-- Lemmas.
-- a replay of recorded steps
mod PlayedAgain
-- steps that are events
mod Placed
