-- What `trace` writes of a schedule.
-- which track of the picture a node has
pub mod Tracks
-- bytes of texts
pub mod Escaping
-- frames, and what they carry
pub mod Frames
-- rows
pub mod Turns
-- one event of each kind
pub mod Events
-- the events of a step, and of all steps
pub mod Steps
-- all that is written of a schedule
pub mod Traced
