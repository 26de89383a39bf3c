-- What holds of every world.
pub mod Headline
-- A world by its fields, as its value shows it.
pub mod Seen
-- One more step.
pub mod After
-- The stations before the first step.
pub mod InitialStations
-- A federate that isn't there has nothing to announce and nothing to run.
pub mod Silence
-- When a world is stuck.
pub mod Stuck
