-- Durations as text.
pub mod Duration
-- The faults of a duration's text.
pub mod DurationFault
