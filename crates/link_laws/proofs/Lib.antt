-- Lists of signals: what stands at a place, and what is left from there on.
pub mod Places
-- What a direction offered, as more frames are sent in it.
pub mod Ways
-- One direction as either side does something.
pub mod Carried
-- Each act keeps both directions.
pub mod Taken
-- A side that forgot all.
pub mod Forgotten
-- Both sides, whatever they do, and whether or not the second forgot all.
pub mod Acts
-- Offering signals together, or one after the other.
pub mod Offers
